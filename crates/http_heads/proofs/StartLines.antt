-- The parts of first lines are read as the grammar has them.
use Rattle.std.proofs.Common.{◌≡◌, ℕ, zero, suc, ◌≤◌, true, false, ◌==◌, cond, List, [], ◌∷◌, ◌++◌, codes, refl, sym, ap, ap₂, subst, ◌∙◌, arith, Option, Some, None}
use Rattle.std.specs.Prelude.{⊤}
use Rattle.std.specs.Char.{is_ascii_digit}
use Rattle.std.specs.Str.{is_utf8}
use Rattle.std.proofs.lemmas.Bool.{cond-true, eqb-true}
use Rattle.std.proofs.lemmas.List.Elements.{All-nil}
use Rattle.std.proofs.lemmas.Str.{IsUtf8-from_is_utf8, is_utf8-from_IsUtf8}
use Rattle.httparse.specs.Grammar.{LineEnd, crlf, lf, is_token_byte, is_uri_byte, is_value_byte, print_end, print_version}
use Rattle.httparse.specs.Pieces.{Bytes, Digit, Method, Reason, Target, Text, Version}
use Rattle.httparse.proofs.PieceLemmas.{Stops_value}
use Rattle.http_heads.specs.Readers.{after, as_phrase, blank_byte, digit, in_utf8, line_end, line_text, method, minor, past, reason, reason_by, run, space, target, version, with_first, word}
use Rattle.http_heads.proofs.Readers.{Reads, none_there, parts_of, run_and_past, run_passes, same_some, word_read}
use Rattle.http_heads.proofs.LineEnds.{end_by, ends}

-- given bytes, and a version
pub after_by : (bytes text rest : List ℕ) → after bytes text ≡ Some rest → text ≡ bytes ++ rest
after_by [] text rest is = same_some text rest is
after_by (b ∷ bytes) [] rest is = none_there rest is
after_by (b ∷ bytes) (x ∷ text) rest is = elim (x == b) as (λ t. (x == b) ≡ t → cond t (after bytes text) None ≡ Some rest → x ∷ text ≡ b ∷ (bytes ++ rest)) [
  | true ↦ λ h i. ap₂ (λ y ys. y ∷ ys) (eqb-true x b h) (after_by bytes text rest i)
  | false ↦ λ h i. none_there rest i
] refl is

minor_by : (text : List ℕ) (found : Option (List ℕ)) → after (codes "HTTP/1.") text ≡ found → (n : ℕ) (rest : List ℕ) → minor found ≡ Some (n, rest) → Version n text rest
minor_by text None e n rest is = none_there (n, rest) is
minor_by text (Some []) e n rest is = none_there (n, rest) is
minor_by text (Some (x ∷ more)) e n rest is =
    let there = after_by (codes "HTTP/1.") text (x ∷ more) e in
    elim (x == 48) as (λ t. (x == 48) ≡ t → cond {A = Option (ℕ × List ℕ)} t (Some (0, more)) (cond (x == 49) (Some (1, more)) None) ≡ Some (n, rest) → Version n text rest) [
      | true ↦ λ h i.
          subst (λ (p : ℕ × List ℕ). Version p.0 text p.1) (same_some (0, more) (n, rest) i)
          (omega arith, there ∙ ap (λ b. codes "HTTP/1." ++ b ∷ more) (eqb-true x 48 h))
      | false ↦ λ h. elim (x == 49) as (λ t. (x == 49) ≡ t → cond {A = Option (ℕ × List ℕ)} t (Some (1, more)) None ≡ Some (n, rest) → Version n text rest) [
        | true ↦ λ o i.
            subst (λ (p : ℕ × List ℕ). Version p.0 text p.1) (same_some (1, more) (n, rest) i)
            (omega arith, there ∙ ap (λ b. codes "HTTP/1." ++ b ∷ more) (eqb-true x 49 o))
        | false ↦ λ o i. none_there (n, rest) i
      ] refl
    ] refl is

version_is : (n : ℕ) (rest : List ℕ) → n ≤ 1 → version (print_version n ++ rest) ≡ Some (n, rest)
version_is zero rest few = refl
version_is (suc zero) rest few = refl
version_is (suc (suc n)) rest few = absurd (omega (arith, few))

pub version_read : Reads version Version Version
version_read = record {
  sound = λ text n rest is. minor_by text (after (codes "HTTP/1.") text) refl n rest is;
  whole = λ n text rest is. ap version is.1 ∙ version_is n rest is.0;
}

pub method_read : Reads method Method Method
unfolding is_token_byte
method_read = word_read is_token_byte 32 refl refl

utf8_by : (text : List ℕ) (found : Option (List ℕ × List ℕ)) → word is_uri_byte 32 text ≡ found → (w rest : List ℕ) → in_utf8 found ≡ Some (w, rest) → Target w text rest
utf8_by text None e w rest is = none_there (w, rest) is
utf8_by text (Some f) e w rest is = elim (is_utf8 f.0) as (λ t. is_utf8 f.0 ≡ t → cond t (Some f) None ≡ Some (w, rest) → Target w text rest) [
  | true ↦ λ h i.
      subst (λ (p : List ℕ × List ℕ). Target p.0 text p.1) (same_some f (w, rest) i)
      ((word_read is_uri_byte 32 refl refl).sound text f.0 f.1 e, IsUtf8-from_is_utf8 f.0 h)
  | false ↦ λ h i. none_there (w, rest) i
] refl is

pub target_read : Reads target Target Target
target_read = record {
  sound = λ text w rest is. utf8_by text (word is_uri_byte 32 text) refl w rest is;
  whole = λ w text rest is.
      ap in_utf8 ((word_read is_uri_byte 32 refl refl).whole w text rest is.0) ∙ cond-true (is_utf8 w) _ _ (is_utf8-from_IsUtf8 w is.1);
}

-- the parts of a status line
digit_by : (text : List ℕ) (d : ℕ) (rest : List ℕ) → digit text ≡ Some (d, rest) → Digit d text rest
digit_by [] d rest is = none_there (d, rest) is
digit_by (x ∷ text) d rest is = elim (is_ascii_digit x) as (λ t. is_ascii_digit x ≡ t → cond {A = Option (ℕ × List ℕ)} t (Some (x, text)) None ≡ Some (d, rest) → Digit d (x ∷ text) rest) [
  | true ↦ λ h i. subst (λ (p : ℕ × List ℕ). Digit p.0 (x ∷ text) p.1) (same_some (x, text) (d, rest) i) (h, refl)
  | false ↦ λ h i. none_there (d, rest) i
] refl is

pub digit_read : Reads digit Digit Digit
digit_read = record { sound = digit_by; whole = λ d text rest is. ap digit is.1 ∙ cond-true (is_ascii_digit d) _ _ is.0 }

space_by : (text : List ℕ) (found : Option (List ℕ)) → after (32 ∷ []) text ≡ found → (u : ⊤) (rest : List ℕ) → blank_byte found ≡ Some (u, rest) → text ≡ 32 ∷ rest
space_by text None e u rest is = none_there (u, rest) is
space_by text (Some more) e u rest is = after_by (32 ∷ []) text more e ∙ ap (λ (p : ⊤ × List ℕ). 32 ∷ p.1) (same_some (tt, more) (u, rest) is)

pub space_read : Reads space (Bytes (32 ∷ [])) (Bytes (32 ∷ []))
space_read = record {
  sound = λ text u rest is. space_by text (after (32 ∷ []) text) refl u rest is;
  whole = λ u text rest is. ap space is;
}

text_by : (text : List ℕ) (found : Option (LineEnd × List ℕ)) → line_end (past is_value_byte text) ≡ found
    → (t : List ℕ × LineEnd) (rest : List ℕ) → with_first (run is_value_byte text) found ≡ Some (t, rest) → Text t text rest
text_by text None e t rest is = none_there (t, rest) is
text_by text (Some f) e t rest is =
    subst (λ (p : (List ℕ × LineEnd) × List ℕ). Text p.0 text p.1) (same_some ((run is_value_byte text, f.0), f.1) (t, rest) is)
    (run_passes is_value_byte text, sym (run_and_past is_value_byte text) ∙ ap (λ r. run is_value_byte text ++ r) (end_by (past is_value_byte text) f.0 f.1 e))

pub text_read : Reads line_text Text Text
text_read = record {
  sound = λ text t rest is. text_by text (line_end (past is_value_byte text)) refl t rest is;
  whole = λ t text rest is.
      let parts = parts_of is_value_byte t.0 (print_end t.1 ++ rest) is.0 (Stops_value t.1 rest) in
      ap line_text is.1 ∙ ap₂ (λ f r. with_first f (line_end r)) parts.front_is parts.rest_is ∙ ap (with_first t.0) (ends t.1 rest);
}

phrase_by : (text rest : List ℕ) (found : Option ((List ℕ × LineEnd) × List ℕ)) → line_text rest ≡ found
    → (r : Option (List ℕ) × LineEnd) (more : List ℕ) → text ≡ 32 ∷ rest → as_phrase found ≡ Some (r, more) → Reason r text more
phrase_by text rest None e r more there is = none_there (r, more) is
phrase_by text rest (Some f) e r more there is =
    let found = text_read.sound rest f.0 f.1 e in
    subst (λ (p : (Option (List ℕ) × LineEnd) × List ℕ). Reason p.0 text p.1) (same_some ((Some f.0.0, f.0.1), f.1) (r, more) is)
    (found.0, there ∙ ap (λ t. 32 ∷ t) found.1)

no_phrase : (text : List ℕ) (found : Option (LineEnd × List ℕ)) → line_end text ≡ found
    → (r : Option (List ℕ) × LineEnd) (more : List ℕ) → with_first None found ≡ Some (r, more) → Reason r text more
no_phrase text None e r more is = none_there (r, more) is
no_phrase text (Some f) e r more is =
    subst (λ (p : (Option (List ℕ) × LineEnd) × List ℕ). Reason p.0 text p.1) (same_some ((None, f.0), f.1) (r, more) is)
    (All-nil (λ b. is_value_byte b ≡ true), end_by text f.0 f.1 e)

reason_back : (text : List ℕ) (found : Option (List ℕ)) → after (32 ∷ []) text ≡ found → (r : Option (List ℕ) × LineEnd) (more : List ℕ) → reason_by found text ≡ Some (r, more) → Reason r text more
reason_back text None e r more is = no_phrase text (line_end text) refl r more is
reason_back text (Some rest) e r more is = phrase_by text rest (line_text rest) refl r more (after_by (32 ∷ []) text rest e) is

ends_reason : (end : LineEnd) (rest : List ℕ) → after (32 ∷ []) (print_end end ++ rest) ≡ None
ends_reason crlf rest = refl
ends_reason lf rest = refl

reason_is : (phrase : Option (List ℕ)) (end : LineEnd) (text rest : List ℕ) → Reason (phrase, end) text rest → reason text ≡ Some ((phrase, end), rest)
reason_is None end text rest is =
    ap reason is.1 ∙ ap (λ f. reason_by f (print_end end ++ rest)) (ends_reason end rest) ∙ ap (with_first None) (ends end rest)
reason_is (Some words) end text rest is =
    ap reason is.1 ∙ ap as_phrase (text_read.whole (words, end) (words ++ (print_end end ++ rest)) rest (is.0, refl))

pub reason_read : Reads reason Reason Reason
reason_read = record {
  sound = λ text r rest is. reason_back text (after (32 ∷ []) text) refl r rest is;
  whole = λ r text rest is. reason_is r.0 r.1 text rest is;
}
