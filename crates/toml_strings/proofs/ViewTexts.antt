-- The texts of a value are UTF-8.
use Rattle.std.proofs.Common.{◌≡◌, ℕ, true, List, [], ◌∷◌, map, String, Global, string_bytes, sym, subst}
use Rattle.std.proofs.lemmas.Str.{IsUtf8-string_bytes, is_utf8-from_IsUtf8}
use Rattle.toml.specs.Data.{Data}
use Rattle.toml.specs.View.{items_of, members_of, view, view_step}
use Rattle.toml.specs.declared.value.Value.{Value, fold-roll-Value, ind-Value, map-Value}
use Rattle.toml.specs.declared.value.Value.TheOpen.{Value-F}
use Rattle.toml_strings.specs.Texts.{AreItemTexts, AreMemberTexts, AreTexts}

module _ {E : Type 0} (f : E → Value) (is : (e : E) → AreTexts (view (f e))) where
  items : (xs : List E) → AreItemTexts (items_of (map view (map f xs)))
  items [] = tt
  items (x ∷ xs) = (is x, items xs)

  members : (xs : List (String Global × E)) → AreMemberTexts (members_of (map (λ (m : String Global × Value). (m.0, view m.1)) (map (λ (m : String Global × E). (m.0, f m.1)) xs)))
  members [] = tt
  members (x ∷ xs) = (is x.1, members xs)

  layer : (y : Value-F E) → AreTexts (view_step (map-Value Value Data view (map-Value E Value f y)))
  layer (Value-F.String s) = is_utf8-from_IsUtf8 (string_bytes s) (IsUtf8-string_bytes s)
  layer (Value-F.Integer z) = tt
  layer (Value-F.Float x) = tt
  layer (Value-F.Boolean b) = tt
  layer (Value-F.Datetime x) = tt
  layer (Value-F.Array v) = items v.items
  layer (Value-F.Table m) = members m.entries

pub texts : (v : Value) → AreTexts (view v)
texts v =
    ind-Value (λ w. AreTexts (view w))
    (λ x y e. subst AreTexts (sym (fold-roll-Value Data view_step x)) (subst (λ z. AreTexts (view_step (map-Value Value Data view z))) e (layer (λ c. c.0) (λ c. c.1) y))) v
