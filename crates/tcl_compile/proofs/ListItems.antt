-- The elements of a list, by their places and values.
use Rattle.std.proofs.Common.{◌≡◌, ℕ, ◌+◌, List, [], ◌∷◌, ◌++◌, take, map, Option, Some, None}
use Rattle.std.proofs.Common.{refl, sym, ap, ap₂, ◌∙◌}
use Rattle.std.specs.Prelude.{Result, Ok, Err, option_map, slice_get}
use Rattle.std.proofs.lemmas.List.{map_more}
use Rattle.std.proofs.lemmas.Option.{get_or_from_slice_get, slice_get-map, slice_get_within}
use Rattle.tcl_lists.specs.Element.{ListElement, value_of, place_of}
use Rattle.tcl_lists.specs.Read.{elements, each, list_places, list_values}
use Rattle.tcl_lists.specs.declared.fault.ListFault.{ListFault}
use Rattle.tcl_lists.specs.declared.place.ElementPlace.{ElementPlace}
use Rattle.tcl_trees.specs.CaseList.{item_from, item_of}
use Rattle.tcl_trees.specs.declared.case_item.CaseItem.{CaseItem}

abbrev elements_or : Result (List ListElement) ListFault → List ListElement
elements_or (Ok es) = es
elements_or (Err f) = []

abbrev pub elements_of : List ℕ → List ListElement
elements_of text = elements_or (elements text)

each_are : {T : Type 0} (view : ListElement → T) (r : Result (List ListElement) ListFault) (ts : List T)
    → each view r ≡ Ok ts → map view (elements_or r) ≡ ts
each_are view (Ok es) ts e = cc
each_are view (Err f) ts e = cc

module _ (text : List ℕ) (at : ℕ) (p : ElementPlace) (v : List ℕ) where
  abbrev es : List ListElement
  es = elements_of text

  item_there : (o : Option ListElement) → slice_get es at ≡ o → option_map value_of o ≡ Some v
      → option_map place_of o ≡ Some p
      → map (item_of text) (take (at + 1) es) ≡ map (item_of text) (take at es) ++ item_from text p v ∷ []
  item_there None there valued placed = cc
  item_there (Some e) there valued placed =
      let value : value_of e ≡ v = cc in
      let place : place_of e ≡ p = cc in
      map_more (item_of text) es at e (slice_get_within es at e there)
      ∙ ap (λ x. map (item_of text) (take at es) ++ x ∷ [])
      (ap (item_of text) (get_or_from_slice_get es at e e there) ∙ ap₂ (item_from text) place value)

  there_too : {T : Type 0} (view : ListElement → T) (ts : List T) (t : T)
      → each view (elements text) ≡ Ok ts → slice_get ts at ≡ Some t
      → option_map view (slice_get es at) ≡ Some t
  there_too view ts t are there =
      sym (slice_get-map view es at)
      ∙ ap (λ l. slice_get l at) (each_are view (elements text) ts are) ∙ there

  -- one element more
  pub items_turn : (ps : List ElementPlace) (vs : List (List ℕ)) (done new : List CaseItem) (i : CaseItem)
      → list_places text ≡ Ok ps → list_values text ≡ Ok vs → slice_get ps at ≡ Some p
      → slice_get vs at ≡ Some v → i ≡ item_from text p v → done ≡ map (item_of text) (take at es)
      → new ≡ done ++ i ∷ [] → new ≡ map (item_of text) (take (at + 1) es)
  items_turn ps vs done new i places values placed valued is so pushed =
      pushed ∙ ap (λ x. done ++ x ∷ []) is
      ∙ ap (λ l. l ++ item_from text p v ∷ []) so
      ∙ sym (item_there (slice_get es at) refl (there_too value_of vs v values valued)
      (there_too place_of ps p places placed))
