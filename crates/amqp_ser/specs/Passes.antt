-- What the two passes give.
pub use Rattle.amqp_write.specs.Passes.{listed, HasPlace, IsSize, NoSize, HasLength, IsMeasureOf}
