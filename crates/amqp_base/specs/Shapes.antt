-- What is written or read part by part.
use Rattle.std.specs.Prelude.{List, [], ◌∷◌}
use Rattle.amqp_base.specs.declared.shape.Shape.{Shape}
use Rattle.amqp_base.specs.declared.shape.Setting.{Setting}
use Rattle.amqp_base.specs.declared.shape.Setting.TheVariants.{Plain, DescribedMap}
use Rattle.amqp_base.specs.Item.{Item, list, map, array, items_of, Pairs, no_pairs, pair}

-- keys and values in turn, in twos; a last key without a value isn't counted
abbrev pub pairs_of : List Item → Pairs
pairs_of [] = no_pairs
pairs_of (k ∷ []) = no_pairs
pairs_of (k ∷ v ∷ xs) = pair k v (pairs_of xs)

-- the item that has these parts: a list (1.6.22), also of a tuple; an array (1.6.24); a map of keys and values in turn, also of fields (1.6.23)
unfoldable pub whole : Shape → List Item → Item
whole Shape.List xs = list (items_of xs)
whole Shape.Array xs = array (items_of xs)
whole (Shape.Tuple n) xs = list (items_of xs)
whole Shape.Map xs = map (pairs_of xs)
whole Shape.Fields xs = map (pairs_of xs)

-- the setting that the parts are under
abbrev pub setting_inside : Shape → Setting
setting_inside Shape.List = Plain
setting_inside Shape.Array = Plain
setting_inside (Shape.Tuple n) = Plain
setting_inside Shape.Map = Plain
setting_inside Shape.Fields = DescribedMap
