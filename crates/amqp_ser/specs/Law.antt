-- The law of writing.
pub use Rattle.amqp_write.specs.Law.{IsDevice, placed, unwritten, found_after, same_size, begins, is_next, plan_after, measure_after, Goes, Took, Unwritten, MayRefuse, Kept, Wrote, Refused, Stops, Spares, Writes}
unfoldable pub use Rattle.amqp_write.specs.Law.{marked, why_unwritten, fits, text_for}
