-- Texts that are the same but for the case of their letters.
use Rattle.std.proofs.Common.{◌≡◌, ℕ, ◌<◌, true, false, eq-eqb, List, length, get_or, sym, ap, ◌∙◌}
use Rattle.std.proofs.Common.{arith}
use Rattle.std.specs.Char.{to_ascii_lowercase, eq_ignore_ascii_case}
use Rattle.std.proofs.lemmas.Bool.{false≢true}
use Rattle.std.proofs.lemmas.Bool.Decides.{Decides-eqb}
use Rattle.std.proofs.lemmas.List.{ext_get_or, get_or-map, length-map}
use Rattle.px_bytes.specs.Letters.{lowered}

lowered_at : (xs : List ℕ) (k : ℕ) → k < length xs → get_or (lowered xs) k 0 ≡ to_ascii_lowercase (get_or xs k 0)
lowered_at xs k h = get_or-map to_ascii_lowercase xs k 0 0 h

pub same_lowered : (xs ys : List ℕ) → length xs ≡ length ys → ((k : ℕ) → k < length xs → to_ascii_lowercase (get_or xs k 0) ≡ to_ascii_lowercase (get_or ys k 0)) → lowered xs ≡ lowered ys
same_lowered xs ys size each =
    let sizes : length (lowered xs) ≡ length (lowered ys) = length-map xs to_ascii_lowercase ∙ size ∙ sym (length-map ys to_ascii_lowercase) in
    ext_get_or 0 (lowered xs) (lowered ys) sizes
    (λ k h. let here : k < length xs = omega (arith, length-map xs to_ascii_lowercase) in
    lowered_at xs k here ∙ each k here ∙ sym (lowered_at ys k (omega arith)))

pub differs_at : (xs ys : List ℕ) (k : ℕ) → k < length xs → k < length ys → ¬ (to_ascii_lowercase (get_or xs k 0) ≡ to_ascii_lowercase (get_or ys k 0)) → ¬ (lowered xs ≡ lowered ys)
differs_at xs ys k h g other e = other (sym (lowered_at xs k h) ∙ ap (λ t. get_or t k 0) e ∙ lowered_at ys k g)

pub differs_here : (xs ys : List ℕ) (k x y : ℕ) → k < length xs → k < length ys → x ≡ get_or xs k 0 → y ≡ get_or ys k 0 → eq_ignore_ascii_case x y ≡ false → ¬ (lowered xs ≡ lowered ys)
differs_here xs ys k x y h g e f other same =
    differs_at xs ys k h g (λ q. let low : to_ascii_lowercase x ≡ to_ascii_lowercase y = ap to_ascii_lowercase e ∙ q ∙ sym (ap to_ascii_lowercase f) in false≢true (sym other ∙ eq-eqb _ _ low)) same

pub same_here : (xs ys : List ℕ) (k x y : ℕ) → x ≡ get_or xs k 0 → y ≡ get_or ys k 0 → eq_ignore_ascii_case x y ≡ true → to_ascii_lowercase (get_or xs k 0) ≡ to_ascii_lowercase (get_or ys k 0)
same_here xs ys k x y e f same =
    sym (ap to_ascii_lowercase e) ∙ (Decides-eqb (to_ascii_lowercase x) (to_ascii_lowercase y)).0 same ∙ ap to_ascii_lowercase f
