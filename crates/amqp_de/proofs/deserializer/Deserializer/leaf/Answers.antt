use Rattle.std.proofs.Common.{rules, ◌||◌}
use Rattle.amqp_base.specs.Typing.{is_of}
use Rattle.amqp_base.proofs.KindPlaces.{of_kind}
use Rattle.amqp_base.specs.Parse.{data_at}
use Rattle.amqp_de.proofs.Answered.{reads_kind, found, missed_byte, missed_data, exact_data, byte_first, item_first, byte_named, data_named, byte_refused, data_refused, refused_exactly, stops_there}
use Rattle.amqp_de.proofs.deserializer.Deserializer.leaf.Goals as goal

pub returns-in-Ok-read-clause-reads : goal.returns-in-Ok-read-clause-reads
returns-in-Ok-read-clause-reads g c =
    let b = rw (← c.self-2.view_is) at c.in-Ok.ensures.ok in
    let t = of_kind g.L.Leaf.kind (g.L.Leaf.shows c.in-Ok-read.value) (g.met.L.Leaf.of_kind c.in-Ok-read.value) in
    let r = g.R.Read.reading c.read.new.reader in
    record {
      ok = found (is_of g.L.Leaf.kind) (g.L.Leaf.shows c.in-Ok-read.value) c.args.self.now _ r c.in-Ok.code t b c.in-Ok-read.ensures.ok;
      err = tt;
      named = tt;
      exact = λ a. exact_data g.L.Leaf.shows (data_at g.L.Leaf.kind) (g.L.Leaf.grows || g.R.Read.buffers) g.R.Read.buffers c.in-Ok-read.value c.args.self.now _ r c.in-Ok.code (reads_kind g.L.Leaf.kind) t b c.in-Ok-read.ensures.ok;
      stops = (search rules);
    }

pub returns-in-Err-read-clause-reads : goal.returns-in-Err-read-clause-reads
returns-in-Err-read-clause-reads g c =
    let b = rw (← c.self-2.view_is) at c.in-Ok.ensures.ok in
    let r = g.R.Read.reading c.read.new.reader in
    record {
      ok = tt;
      err = missed_data (data_at g.L.Leaf.kind) (g.L.Leaf.grows || g.R.Read.buffers) g.R.Read.buffers c.args.self.now _ r c.in-Ok.code c.in-Err-read.e (reads_kind g.L.Leaf.kind) b c.in-Err-read.ensures.err;
      named = data_named g.L.Leaf.kind (g.L.Leaf.grows || g.R.Read.buffers) g.R.Read.buffers c.args.self.now _ r c.in-Ok.code c.in-Err-read.e b c.in-Err-read.ensures.err;
      exact = λ a. refused_exactly (data_at g.L.Leaf.kind) (g.L.Leaf.grows || g.R.Read.buffers) g.R.Read.buffers c.args.self.now _ c.in-Err-read.e a (data_refused (data_at g.L.Leaf.kind) (g.L.Leaf.grows || g.R.Read.buffers) g.R.Read.buffers c.args.self.now _ r c.in-Ok.code c.in-Err-read.e b c.in-Err-read.ensures.err);
      stops = stops_there _ _ _ (search rules) (search rules);
    }

pub returns-in-Err-clause-reads : goal.returns-in-Err-clause-reads
returns-in-Err-clause-reads g c = record {
  ok = tt;
  err = missed_byte g.L.Leaf.grows g.R.Read.buffers _ _ _ (reads_kind g.L.Leaf.kind) c.in-Err.ensures.err;
  named = byte_named g.L.Leaf.kind g.L.Leaf.grows g.R.Read.buffers _ _ _ c.in-Err.ensures.err;
  exact = λ a. refused_exactly (data_at g.L.Leaf.kind) (g.L.Leaf.grows || g.R.Read.buffers) g.R.Read.buffers c.args.self.now _ c.in-Err.e a (byte_refused (data_at g.L.Leaf.kind) g.L.Leaf.grows g.R.Read.buffers _ _ _ c.in-Err.ensures.err);
  stops = stops_there _ _ _ (search rules) (search rules);
}

-- memory is asked for last
pub returns-in-Err-read-clause-bytes_first : goal.returns-in-Err-read-clause-bytes_first
returns-in-Err-read-clause-bytes_first g c = λ grows a.
    let b = rw (← c.self-2.view_is) at c.in-Ok.ensures.ok in
    item_first (data_at g.L.Leaf.kind) g.R.Read.buffers c.args.self.now _ c.in-Ok.code c.in-Err-read.e b (c.in-Err-read.ensures.bytes_first grows)

pub returns-in-Err-clause-bytes_first : goal.returns-in-Err-clause-bytes_first
returns-in-Err-clause-bytes_first g c = λ grows a. byte_first (data_at g.L.Leaf.kind) g.R.Read.buffers _ _ _ c.in-Err.ensures.err
