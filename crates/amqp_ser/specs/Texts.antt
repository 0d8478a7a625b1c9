-- The text of an item where it stands, and why one that has no text isn't written.
pub use Rattle.amqp_write.specs.Texts.{placed, other_of, mark_after, payload_length, unwritten, or_later, or_whole, HasNoText}
unfoldable pub use Rattle.amqp_write.specs.Texts.{marked, why_unwritten, why_part, why_pair}
