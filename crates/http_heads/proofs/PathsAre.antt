-- What stands behind the authority of a target is a target.
use Rattle.std.proofs.Common.{◌≡◌, ℕ, ◌+◌, ◌-◌, ◌<◌, ◌≤◌, Bool, true, false, not, ◌==◌, cond, codes, List, [], ◌∷◌, length, take, drop, get_or, nat_lt, refl, sym, ap, subst, ◌∙◌, arith}
use Rattle.std.specs.Prelude.{All, IsUtf8}
use Rattle.std.specs.Str.{IsCharBoundary, bytes_eq}
use Rattle.std.proofs.lemmas.Bool.{and_parts, ltb-true}
use Rattle.std.proofs.lemmas.List.{drop-drop, get_or-drop, get_or-take, length-drop, length-take-le}
use Rattle.std.proofs.lemmas.List.Elements.{All-cons, All-drop, All-get_or}
use Rattle.std.proofs.lemmas.List.Sums.{prefix_len-le-length}
use Rattle.std.proofs.lemmas.Str.{IsCharBoundary-after_ascii, IsUtf8-append, IsUtf8-drop}
use Rattle.httparse.specs.Grammar.{is_uri_byte}
use Rattle.http_heads.specs.Hosts.{is_authority, is_host, is_host_byte}
use Rattle.http_heads.specs.Lines.{IsTarget}
use Rattle.http_heads.specs.Targets.{authority_length, authority_of, ends_authority, path_of, rest_of}
use Rattle.http_heads.proofs.HostFields.{host_ascii}
use Rattle.http_heads.proofs.ReadFields.{pass_of}
use Rattle.http_heads.proofs.Targets.{is_target}

abbrev IsUri : ℕ → Type 0
IsUri b = is_uri_byte b ≡ true

-- behind a byte of ASCII the rest of a target is in UTF-8
tail_utf8 : (target : List ℕ) (k : ℕ) → IsUtf8 target → 0 < k → k ≤ length target → get_or target (k - 1) 0 < 128 → IsUtf8 (drop k target)
tail_utf8 target k characters some inside small =
    IsUtf8-drop target k characters
    (subst (IsCharBoundary target) (omega (arith, some)) (IsCharBoundary-after_ascii target (k - 1) characters (omega (arith, some, inside)) small))

module _ (target : List ℕ) (from : ℕ) (is : IsTarget target) (inside : from ≤ length target) (good : is_authority (authority_of (drop from target)) ≡ true) where
  abbrev text : List ℕ
  text = drop from target

  abbrev size : ℕ
  size = authority_length text

  fits : size ≤ length text
  fits = prefix_len-le-length (λ b. not (ends_authority b)) text

  taken : length (take size text) ≡ size
  taken = length-take-le size text fits

  some : 0 < size
  some = let long = ltb-true 0 (length (take size text)) (and_parts (nat_lt 0 (length (take size text))) (is_host (take size text)) good).0 in omega (arith, long, taken)

  last_small : get_or target (from + size - 1) 0 < 128
  last_small =
      let hosts = pass_of is_host_byte (take size text) (and_parts (nat_lt 0 (length (take size text))) (is_host (take size text)) good).1 in
      let last = All-get_or (λ b. is_host_byte b ≡ true) (take size text) (size - 1) 0 (omega (arith, some, taken)) hosts in
      let place : from + (size - 1) ≡ from + size - 1 = omega (arith, some) in
      subst (λ b. b < 128) (get_or-take size text (size - 1) 0 (omega (arith, some)) ∙ get_or-drop from target (size - 1) 0 ∙ ap (λ i. get_or target i 0) place)
      (host_ascii (get_or (take size text) (size - 1) 0) last)

  rest_is : drop (from + size) target ≡ rest_of text
  rest_is = sym (drop-drop size from target)

  characters : IsUtf8 (rest_of text)
  characters =
      subst IsUtf8 rest_is
      (tail_utf8 target (from + size) is.characters (omega (arith, some)) (let all = length-drop from target in omega (arith, inside, fits, all)) last_small)

  visible : All IsUri (rest_of text)
  visible = subst (All IsUri) rest_is (All-drop IsUri (from + size) target is.visible)

  with_slash : (byte : ℕ) (rest : List ℕ) → All IsUri (byte ∷ rest) → IsUtf8 (byte ∷ rest) → (slash : Bool) → IsTarget (cond slash (byte ∷ rest) (47 ∷ byte ∷ rest))
  with_slash byte rest all utf8 true = record { some = omega arith; visible = all; characters = utf8 }
  with_slash byte rest all utf8 false = record {
    some = omega arith;
    visible = All-cons IsUri 47 (byte ∷ rest) refl all;
    characters = IsUtf8-append (47 ∷ []) (byte ∷ rest) (is_target (47 ∷ []) refl).characters utf8;
  }

  nothing : (options : Bool) → IsTarget (cond options (42 ∷ []) (47 ∷ []))
  nothing true = is_target (42 ∷ []) refl
  nothing false = is_target (47 ∷ []) refl

  path_by : (method rest : List ℕ) → All IsUri rest → IsUtf8 rest → IsTarget (path_of method rest)
  path_by method [] all utf8 = nothing (bytes_eq method (codes "OPTIONS"))
  path_by method (byte ∷ rest) all utf8 = with_slash byte rest all utf8 (byte == 47)

  pub path_is : (method : List ℕ) → IsTarget (path_of method (rest_of text))
  path_is method = path_by method (rest_of text) visible characters
