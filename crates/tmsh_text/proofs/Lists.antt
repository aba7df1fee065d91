-- Texts of items, one behind another.
use Rattle.std.proofs.Common.{◌≡◌, ℕ, ◌+◌, ◌<◌, List, ◌∷◌, ◌++◌, drop, length, get_or, sym, ap, ◌∙◌, append_assoc}
use Rattle.std.proofs.lemmas.List.{drop_more}
use Rattle.std.specs.Prelude.{flat_map}

-- the text of an item more
pub one_more : {A : Type 0} (f : A → List ℕ) (xs : List A) (i : ℕ) (x : A) → i < length xs → x ≡ get_or xs i x → (text more : List ℕ) → more ≡ text ++ f x
    → text ++ flat_map f (drop i xs) ≡ flat_map f xs → more ++ flat_map f (drop (i + 1) xs) ≡ flat_map f xs
one_more f xs i x there is text more added before =
    let step = drop_more xs i x there ∙ ap (λ y. y ∷ drop (i + 1) xs) (sym is) in
    ap (λ t. t ++ flat_map f (drop (i + 1) xs)) added ∙ append_assoc text (f x) (flat_map f (drop (i + 1) xs)) ∙ sym (ap (λ ys. text ++ flat_map f ys) step) ∙ before
