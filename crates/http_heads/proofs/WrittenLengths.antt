-- How many bytes heads have as they are written.
use Rattle.std.proofs.Common.{◌≡◌, ℕ, ◌+◌, ◌≤◌, List, [], ◌∷◌, ◌++◌, length, refl, arith, ap₂, ◌∙◌, length-append}
use Rattle.std.specs.Prelude.{sum_by}
use Rattle.std.proofs.lemmas.List.Sums.{sum_by-cons}
use Rattle.httparse.specs.Grammar.{print_field, print_request, print_response, print_version}
use Rattle.http_heads.specs.Fields.{Pair, line_length}
use Rattle.http_heads.specs.Lines.{minor_of}
use Rattle.http_heads.specs.Written.{code_digits, line_of, lines_of, written_request, written_response}
use Rattle.http_heads.specs.declared.request.RequestHead.{RequestHead}
use Rattle.http_heads.specs.declared.response.ResponseHead.{ResponseHead}

abbrev end : List ℕ
end = 13 ∷ 10 ∷ []

pub line_bytes : (f : Pair) → length (print_field (line_of f)) ≡ line_length f
line_bytes f =
    let front = f.0 ++ 58 ∷ 32 ∷ f.1 in
    let size : length (print_field (line_of f)) ≡ length front + length end = length-append front end in
    omega (arith, size, length-append f.0 (58 ∷ 32 ∷ f.1))

pub lines_length : (fs : List Pair) → length (lines_of fs) ≡ sum_by line_length fs
lines_length [] = refl
lines_length (f ∷ fs) =
    let size : length (lines_of (f ∷ fs)) ≡ length (print_field (line_of f)) + length (lines_of fs) =
    length-append (print_field (line_of f)) (lines_of fs) in
    omega (arith, size, sum_by-cons line_length f fs, line_bytes f, lines_length fs)

-- the lengths of parts, one behind another
two : (xs ys : List ℕ) (n m : ℕ) → length xs ≡ n → length ys ≡ m → length (xs ++ ys) ≡ n + m
two xs ys n m p q = length-append xs ys ∙ ap₂ (λ x y. x + y) p q

section_length : (fs : List Pair) → length (lines_of fs ++ end) ≡ sum_by line_length fs + 2
section_length fs = two (lines_of fs) end (sum_by line_length fs) 2 (lines_length fs) refl

pub request_length : (head : RequestHead)
    → length (written_request head) ≡ length head.method + length head.target + sum_by line_length head.fields + 14
unfolding print_request
request_length head =
    let version = print_version (minor_of head.version) in
    let first = two head.method (32 ∷ head.target) (length head.method) (length (32 ∷ head.target)) refl refl in
    let second = two (head.method ++ 32 ∷ head.target) (32 ∷ version) _ 9 first refl in
    let line = two (head.method ++ 32 ∷ head.target ++ 32 ∷ version) end _ 2 second refl in
    let whole = two (head.method ++ 32 ∷ head.target ++ 32 ∷ version ++ end) (lines_of head.fields ++ end) _ _ line (section_length head.fields) in
    whole ∙ omega arith

pub response_length : (head : ResponseHead)
    → length (written_response head) ≡ length head.reason + sum_by line_length head.fields + 17
unfolding print_response
response_length head =
    let start = print_version (minor_of head.version) ++ 32 ∷ code_digits head.status in
    let first = two start (32 ∷ head.reason) 12 (length (32 ∷ head.reason)) refl refl in
    let line = two (start ++ 32 ∷ head.reason) end _ 2 first refl in
    let whole = two (start ++ 32 ∷ head.reason ++ end) (lines_of head.fields ++ end) _ _ line (section_length head.fields) in
    whole ∙ omega arith
