-- A text, the bytes of a uuid and elements as the logic holds them, for the clauses on what is lent to be written.
use Rattle.std.specs.Prelude.{◌≡◌, ⊤, ℕ, List}
use Rattle.std.specs.Borrow.{RattleType, u8, Array}
use Rattle.std.specs.contracts.alloc.Global as global
use Rattle.std.specs.contracts.string.String as text
use Rattle.std.specs.contracts.vec.Vec as vec
use Rattle.std.specs.contracts.hash.BuildHasherDefault as hasher
use Rattle.std.specs.contracts.hash.FoldHasher as folding
use Rattle.std.specs.contracts.prelude.BuildHasherDefaultBuildHasher.TheImpl as building
use Rattle.std.specs.contracts.prelude.FoldHasherHasher.TheImpl as fold
use Rattle.std.specs.declared.cmp.PartialEq.{Ghosts as Comparing}
use Rattle.indexmap.specs.contracts.map.IndexMap as index_map
use Rattle.amqp_types.specs.contracts.ordered_map.OrderedMap as ordered_map
use Rattle.std.specs.contracts.impls.GlobalAllocator.TheImpl.{ghosts}

abbrev pub text_row : RattleType
text_row = text.the_row global.the_row ghosts

abbrev pub uuid_bytes : RattleType
uuid_bytes = Array u8 16

abbrev pub elements_row : RattleType → RattleType
elements_row T = vec.the_row T global.the_row ghosts

-- an ordered map, by how its keys are compared and what they give to a hasher
abbrev pub map_row : (K V : RattleType) → Comparing K.Denot → (K.Denot → List (List ℕ)) → RattleType
map_row K V eq input = ordered_map.the_row K V eq (record { hash_input = input })

-- the pairs of an ordered map, whose hasher is the default one
abbrev pub pairs_row : (K V : RattleType) → Comparing K.Denot → (K.Denot → List (List ℕ)) → RattleType
pairs_row K V eq input = index_map.the_row K V (hasher.the_row folding.the_row) global.the_row folding.the_row eq (record { hash_input = input }) (building.ghosts folding.the_row fold.ghosts building.no_dict (record { is_clone = λ a b. a ≡ b; is_infallible = λ _. ⊤ }) building.no_dict) fold.ghosts ghosts
