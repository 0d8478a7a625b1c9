-- Refusals by name, of maps.
use Rattle.std.proofs.Common.{◌≡◌, ℕ, zero, suc, ◌<◌, Bool, true, List, refl, inl, inr, arith}
use Rattle.amqp_base.specs.declared.error.Error.{Error}
use Rattle.amqp_base.specs.Item.{Item, Items, Pairs}
use Rattle.amqp_base.specs.Wire.{bare}
use Rattle.amqp_base.specs.Parse.{map_data}
use Rattle.amqp_base.specs.Refusing.{Refusing, PartsRefusing, turn_refusal, map_refusal}
use Rattle.amqp_de.specs.Decoding.{Decoding}
use Rattle.amqp_de.specs.Law.{Named}
use Rattle.amqp_de.specs.Access.{Listing, Opens, OpensExactly, Part, PartNamed}
use Rattle.amqp_data.specs.Parts.{HasPairs}
use Rattle.amqp_de.specs.ReadParts.{PartsRead}
use Rattle.amqp_de.specs.ReadPairs.{NextPair, NoEntry, no_key, no_value, PairsRead, EntryTurnNamed, key_named, value_named}
use Rattle.amqp_de.proofs.NamedParts.{Reaches, reaches_on, part_told, refused_behind, taken_since}
use Rattle.amqp_de.proofs.Pairs.{key_more}

-- a part was refused here
turned : (key : Item → Bool) (keys : Refusing) (value : Item → Bool) (values : Refusing) (n : ℕ) (s : List ℕ) (e : Error) → 0 < n → keys bare s e → turn_refusal key keys value values n s e
turned key keys value values zero s e l p = absurd (omega (arith, l))
turned key keys value values (suc n) s e l p = inl p

-- one more was read
pub reaches_turn : (whole : PartsRefusing) (key : Item → Bool) (keys : Refusing) (value : Item → Bool) (values : Refusing) {means : Item → Type 0} (from now next : Listing) → Reaches whole (turn_refusal key keys value values) from now → Part key means now next → Reaches whole (turn_refusal value values key keys) from next
reaches_turn whole key keys value values from now next r p = reaches_on whole (turn_refusal key keys value values) (turn_refusal value values key keys) from now next r p (λ w rest e q. inr (record {
  item = p.front.item;
  text = p.front.text;
  rest = rest;
  spelled = w;
  taken = p.front.taken;
  split = refl;
  behind = q;
}))

module _ (key : Item → Bool) (keys : Refusing) (value : Item → Bool) (values : Refusing) where
  -- a pair was read
  pub reaches_pair : {K V : Type 0} {km : Item → K → Type 0} {vm : Item → V → Type 0} {kg vg buffers : Bool} {k : K} {v : V} (from now next : Listing) → Reaches (turn_refusal key keys value values) (turn_refusal key keys value values) from now
      → NextPair key value km vm kg vg buffers now k v next → Reaches (turn_refusal key keys value values) (turn_refusal key keys value values) from next
  reaches_pair from now next r n =
      reaches_turn (turn_refusal key keys value values) value values key keys from n.between next (reaches_turn (turn_refusal key keys value values) key keys value values from now n.between r n.key_read.0) n.value_read.0

  module _ (buffers : Bool) (old last : Decoding) (e : Error) (from : Listing) (o : Opens HasPairs old from) (x : OpensExactly map_data old from) where
    -- a part of the map was refused
    pub part_of_map : (first : Item → Bool) (firsts : Refusing) (second : Item → Bool) (seconds : Refusing) {grows : Bool} {is : Items} {f : Listing} (now next : Listing) → Opens HasPairs old f → PartsRead f is now → Reaches (turn_refusal key keys value values) (turn_refusal first firsts second seconds) from now
        → 0 < now.left → last.reading ≡ next.state.reading → PartNamed first firsts grows buffers now next e → Named (map_refusal key keys value values) true buffers old last e
    part_of_map first firsts second seconds now next p reads r some same n =
        refused_behind map_data (turn_refusal key keys value values) true buffers old last e from now (λ _. refl) x (taken_since p reads) r
        (part_told now next last e (λ rest. turn_refusal first firsts second seconds now.left rest e) r.plain reads.not_ended same (λ rest q. turned first firsts second seconds now.left rest e some q) n)

    -- a pair was refused
    pub pair_named : {K : Type 0} {km : Item → K → Type 0} {kg vg : Bool} {pairs : Pairs} (now next : Listing) → PairsRead old key value pairs now → Reaches (turn_refusal key keys value values) (turn_refusal key keys value values) from now
        → (0 < now.left) → last.reading ≡ next.state.reading → EntryTurnNamed key value km keys values kg vg buffers now next e → Named (map_refusal key keys value values) true buffers old last e
    pair_named now next s r some same (key_named n) = part_of_map key keys value values now next s.opened s.reads r some same (n.part s.turn)
    pair_named {pairs = pairs} now next s r some same (value_named k mid p n) =
        let more = key_more key value old pairs now mid s p.0 in
        let turn = more.turn in
        part_of_map value values key keys mid next more.opened more.reads (reaches_turn (turn_refusal key keys value values) key keys value values from now mid r p.0) (omega (arith, turn)) same (n.part turn)

-- what is refused isn't the end
pub some_left : {K : Type 0} {key value : Item → Bool} {km : Item → K → Type 0} {kg vg buffers : Bool} {old : Decoding} {pairs : Pairs} {now next : Listing} {e : Error} → PairsRead old key value pairs now → NoEntry key value km kg vg buffers now next e → 0 < now.left
some_left s (no_key n) = (n.refused s.turn).some_left s.reads.not_ended
some_left s (no_value k mid p n) = let l = p.0.left in omega (arith, l)
