-- Words of a command by their number: those that a slice has, and what is read of them.
use Rattle.std.proofs.Common.{◌≡◌, ℕ, ◌<◌, ◌≤◌, List, [], ◌∷◌, length, get_or, arith, ap, sym, ◌∙◌}

two : (slice : List (List ℕ)) (y : List ℕ) → 2 ≤ length slice → length slice < 3 → y ≡ get_or slice 1 y → slice ≡ get_or slice 0 [] ∷ (y ∷ [])
two [] y least most is = absurd (omega arith)
two (x ∷ []) y least most is = absurd (omega arith)
two (x ∷ y' ∷ []) y least most is = ap (λ w. x ∷ (w ∷ [])) (sym is)
two (x ∷ y' ∷ z ∷ zs) y least most is = absurd (omega arith)

three : (slice : List (List ℕ)) (y z : List ℕ) → 3 ≤ length slice → length slice < 4 → y ≡ get_or slice 1 y → z ≡ get_or slice 2 z → slice ≡ get_or slice 0 [] ∷ (y ∷ (z ∷ []))
three [] y z least most first second = absurd (omega arith)
three (x ∷ []) y z least most first second = absurd (omega arith)
three (x ∷ y' ∷ []) y z least most first second = absurd (omega arith)
three (x ∷ y' ∷ z' ∷ []) y z least most first second = ap (λ w. x ∷ (w ∷ (z' ∷ []))) (sym first) ∙ ap (λ w. x ∷ (y ∷ (w ∷ []))) (sym second)
three (x ∷ y' ∷ z' ∷ w ∷ ws) y z least most first second = absurd (omega arith)

pub are_two : (words slice : List (List ℕ)) (y text : List ℕ) → slice ≡ words → 2 ≤ length slice → length slice < 3 → y ≡ get_or slice 1 y → text ≡ y
    → words ≡ get_or slice 0 [] ∷ (text ∷ [])
are_two words slice y text same least most is read = sym same ∙ two slice y least most is ∙ ap (λ w. get_or slice 0 [] ∷ (w ∷ [])) (sym read)

pub are_three : (words slice : List (List ℕ)) (y text z more : List ℕ) → slice ≡ words → 3 ≤ length slice → length slice < 4 → y ≡ get_or slice 1 y → z ≡ get_or slice 2 z → text ≡ y → more ≡ z
    → words ≡ get_or slice 0 [] ∷ (text ∷ (more ∷ []))
are_three words slice y text z more same least most first second read_first read_second =
    sym same ∙ three slice y z least most first second ∙ ap (λ w. get_or slice 0 [] ∷ (w ∷ (z ∷ []))) (sym read_first) ∙ ap (λ w. get_or slice 0 [] ∷ (text ∷ (w ∷ []))) (sym read_second)
