-- The first places of texts, as one item after another is added.
use Rattle.std.proofs.Common.{◌≡◌, ℕ, ◌+◌, ◌<◌, List, drop, length, get_or, Option, Some, None, refl, sym, ap}
use Rattle.std.proofs.Common.{◌∙◌}
use Rattle.std.specs.Option.{option_or}
use Rattle.toml.proofs.Views.{items_view-drop}
use Rattle.toml.specs.Data.{item}
use Rattle.toml.specs.View.{items_view, view}
use Rattle.toml.specs.declared.value.Value.{Value}
use Rattle.config.specs.Texts.{Places, first_from, here, place_of, text_in, with_text}

or_moves : {X : Type 0} (o p r : Option X) → option_or (option_or o p) r ≡ option_or o (option_or p r)
or_moves None p r = refl
or_moves (Some x) p r = refl

module _ (key : Option (List ℕ)) (vs : List Value) (i : ℕ) (v : Value) (there : i < length vs) (is : v ≡ get_or vs i v) where
  pub item_there : items_view (drop i vs) ≡ item (view v) (items_view (drop (i + 1) vs))
  item_there = items_view-drop vs i v there ∙ ap (λ x. item (view x) (items_view (drop (i + 1) vs))) (sym is)

  pub more_found : (at : ℕ) (places new : Places) (all : List ℕ → Option ℕ) → ((asked : List ℕ) → place_of new asked ≡ with_text places (text_in key (view v)) at asked)
      → ((asked : List ℕ) → all asked ≡ option_or (place_of places asked) (first_from at key (items_view (drop i vs)) asked))
      → (asked : List ℕ) → all asked ≡ option_or (place_of new asked) (first_from (at + 1) key (items_view (drop (i + 1) vs)) asked)
  more_found at places new all added before asked =
      let rest = items_view (drop (i + 1) vs) in
      before asked
      ∙ ap (λ ds. option_or (place_of places asked) (first_from at key ds asked)) item_there
      ∙ sym (or_moves (place_of places asked) (here (text_in key (view v)) asked at) (first_from (at + 1) key rest asked))
      ∙ ap (λ o. option_or o (first_from (at + 1) key rest asked)) (sym (added asked))
