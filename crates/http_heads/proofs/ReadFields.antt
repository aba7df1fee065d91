-- Fields as they are read, and as they are written.
use Rattle.std.proofs.Common.{◌≡◌, ℕ, Bool, true, ◌&&◌, List, [], ◌∷◌, map, refl, ap₂}
use Rattle.std.specs.Prelude.{All}
use Rattle.std.specs.List.{list_all}
use Rattle.std.proofs.lemmas.Bool.{and_parts, lt-ltb, ltb-true}
use Rattle.std.proofs.lemmas.List.Elements.{All-nil, All-cons, All-head, All-tail}
use Rattle.httparse.specs.Grammar.{AllPass, Field, IsField, IsToken, field_value, is_token, is_token_byte, is_value_byte, trim_ows}
use Rattle.httparse.specs.Spans.{name_and_value}
use Rattle.httparse.proofs.TrimLemmas.{AllPass-trim_ows}
use Rattle.http_heads.specs.Fields.{Pair, bare, is_field, is_value}
use Rattle.http_heads.specs.Written.{line_of}

pub test_of : (p : ℕ → Bool) (xs : List ℕ) → AllPass p xs → list_all p xs ≡ true
test_of p [] all = refl
test_of p (x ∷ xs) all =
    ap₂ (λ s t. s && t) (All-head (λ b. p b ≡ true) x xs all) (test_of p xs (All-tail (λ b. p b ≡ true) x xs all))

pub pass_of : (p : ℕ → Bool) (xs : List ℕ) → list_all p xs ≡ true → AllPass p xs
pass_of p [] all = All-nil (λ b. p b ≡ true)
pass_of p (x ∷ xs) all =
    let parts = and_parts (p x) (list_all p xs) all in
    All-cons (λ b. p b ≡ true) x xs parts.0 (pass_of p xs parts.1)

pub token_of : (text : List ℕ) → is_token text ≡ true → IsToken text
token_of text token =
    let parts = and_parts _ (list_all is_token_byte text) token in
    (ltb-true _ _ parts.0, pass_of is_token_byte text parts.1)

pub is_token_of : (text : List ℕ) → IsToken text → is_token text ≡ true
is_token_of text token = ap₂ (λ s t. s && t) (lt-ltb _ _ token.0) (test_of is_token_byte text token.1)

-- a field that was read
field_read : (f : Field) → IsField f → is_field (name_and_value f) ≡ true
field_read f is =
    ap₂ (λ s t. s && t) (is_token_of f.name is.name)
    (test_of is_value_byte (field_value f) (AllPass-trim_ows is_value_byte f.raw is.raw))

pub fields_read : (fs : List Field) → All IsField fs → list_all is_field (map name_and_value fs) ≡ true
fields_read [] all = refl
fields_read (f ∷ fs) all =
    ap₂ (λ s t. s && t) (field_read f (All-head IsField f fs all)) (fields_read fs (All-tail IsField f fs all))

-- a value behind a blank
bare_value : (value : List ℕ) → trim_ows (32 ∷ value) ≡ trim_ows value
unfolding trim_ows
bare_value value = refl

-- what is written of fields is read back as these, without the white space around their values
pub record ComeBack (fs : List Pair) : Type 0 where
  pub are : All IsField (map line_of fs)
  pub same : map name_and_value (map line_of fs) ≡ map bare fs

pub come_back : (fs : List Pair) → list_all is_field fs ≡ true → ComeBack fs
come_back [] all = record { are = All-nil IsField; same = refl }
come_back (f ∷ fs) all =
    let both = and_parts (is_field f) (list_all is_field fs) all in
    let parts = and_parts (is_token f.0) (is_value f.1) both.0 in
    let rest = come_back fs both.1 in
    record {
      are = All-cons IsField (line_of f) (map line_of fs) (record { name = token_of f.0 parts.0; raw = pass_of is_value_byte (32 ∷ f.1) parts.1 }) rest.are;
      same = ap₂ (λ v gs. (f.0, v) ∷ gs) (bare_value f.1) rest.same;
    }
