-- What is told behind what was told.
use Rattle.std.proofs.Common.{◌≡◌, ℕ, ◌+◌, ◌-◌, List, ◌++◌, Option, Some, None, length, take, drop}
use Rattle.std.proofs.Common.{refl, ap, sym, ◌∙◌, append_assoc, take-add}
use Rattle.std.proofs.lemmas.List.{take_rest}
use Rattle.px_outside.specs.Outside.{told_more}

told_twice : (before : Option (List ℕ)) (a b : List ℕ) → told_more (told_more before a) b ≡ told_more before (a ++ b)
told_twice None a b = refl
told_twice (Some x) a b = ap Some (append_assoc x a b)

-- a write behind `done` bytes, of `taken` of those that are left
pub told_next : (before now next : Option (List ℕ)) (bytes : List ℕ) (done taken : ℕ) → now ≡ told_more before (take done bytes) → next ≡ told_more now (take taken (take (length bytes - done) (drop done bytes))) → next ≡ told_more before (take (done + taken) bytes)
told_next before now next bytes done taken e f =
    f ∙ ap (λ left. told_more now (take taken left)) (take_rest bytes done) ∙ ap (λ o. told_more o (take taken (drop done bytes))) e ∙ told_twice before _ _ ∙ ap (told_more before) (sym (take-add done taken bytes))
