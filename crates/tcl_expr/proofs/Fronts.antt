-- Fronts of words, without the case of their letters.
use Rattle.std.proofs.Common.{◌≡◌, ℕ, ◌<◌, ◌&&◌, ◌↔◌, Bool, true, List, length, take, IsTrue, ltb}
use Rattle.std.proofs.Common.{sym, ap, ◌∙◌, arith}
use Rattle.std.specs.Char.{to_ascii_lowercase}
use Rattle.std.specs.Str.{bytes_eq}
use Rattle.std.proofs.lemmas.Bool.{lt-ltb}
use Rattle.std.proofs.lemmas.List.{length-map, take-map}
use Rattle.std.proofs.lemmas.Slice.Eq.{bytes_eq-Decides}
use Rattle.px_bytes.specs.Letters.{lowered}
use Rattle.tcl_expr.specs.Truth.{is_front}
use Rattle.px_bytes.proofs.GlobTests.{same_test}

pub front_test : (word text front : List ℕ) (t : Bool) → IsTrue t ↔ (lowered text ≡ lowered front) → front ≡ take (length text) word → 0 < length text → t ≡ is_front (lowered word) (lowered text)
front_test word text front t h e some =
    let size : length (lowered text) ≡ length text = length-map text to_ascii_lowercase in
    let cut : lowered front ≡ take (length (lowered text)) (lowered word) = ap lowered e ∙ sym (take-map to_ascii_lowercase (length text) word) ∙ ap (λ n. take n (lowered word)) (sym size) in
    let letters : ltb 0 (length (lowered text)) ≡ true = lt-ltb 0 _ (omega arith) in
    let same = bytes_eq-Decides (lowered text) (take (length (lowered text)) (lowered word)) in
    same_test t (bytes_eq (lowered text) (take (length (lowered text)) (lowered word))) h (λ q. same.0 q ∙ sym cut, λ q. same.1 (q ∙ cut))
    ∙ sym (ap (λ b. b && bytes_eq (lowered text) (take (length (lowered text)) (lowered word))) letters)
