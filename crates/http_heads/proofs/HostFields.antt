-- The value of a Host field, and fields of which one has another value.
use Rattle.std.proofs.Common.{◌≡◌, ℕ, zero, suc, ◌<◌, true, ◌&&◌, List, [], ◌∷◌, ◌++◌, codes, length, get_or, set, refl, sym, ap, ap₂, ◌∙◌, arith}
use Rattle.std.specs.List.{list_all}
use Rattle.std.proofs.lemmas.Bool.{and_parts}
use Rattle.std.proofs.lemmas.Bool.Decides.{nat_tests}
use Rattle.std.proofs.lemmas.List.{length-append}
use Rattle.std.proofs.lemmas.List.Folds.{list_all-append}
use Rattle.httparse.specs.Grammar.{is_token, is_token_byte, is_value_byte}
use Rattle.http_heads.specs.Fields.{AreFields, Pair, is_field, is_value}
use Rattle.http_heads.specs.Hosts.{is_host, is_host_byte}
use Rattle.http_heads.specs.Received.{value_set}

pub host_visible : (b : ℕ) → is_host_byte b ≡ true → is_value_byte b ≡ true
host_visible b is = grind (arith, nat_tests)

pub host_ascii : (b : ℕ) → is_host_byte b ≡ true → b < 128
host_ascii b is = grind (arith, nat_tests)

all_visible : (v : List ℕ) → is_host v ≡ true → list_all is_value_byte v ≡ true
all_visible [] is = refl
all_visible (b ∷ v) is =
    let both = and_parts (is_host_byte b) (is_host v) is in ap₂ (λ s t. s && t) (host_visible b both.0) (all_visible v both.1)

pub host_is_value : (v : List ℕ) → is_host v ≡ true → is_value v ≡ true
host_is_value v is = all_visible v is

pub set_is : (fs : List Pair) (at : ℕ) (f : Pair) (v : List ℕ) → at < length fs → f ≡ get_or fs at f → set fs at (f.0, v) ≡ value_set fs at v
set_is [] at f v there is = absurd (omega (arith, there))
set_is (g ∷ fs) zero f v there is = ap (λ (h : Pair). (h.0, v) ∷ fs) is
set_is (g ∷ fs) (suc at) f v there is = ap (λ gs. g ∷ gs) (set_is fs at f v (omega (arith, there)) is)

all_set : (fs : List Pair) (at : ℕ) (v : List ℕ) → list_all is_field fs ≡ true → is_value v ≡ true → list_all is_field (value_set fs at v) ≡ true
all_set [] at v all is = all
all_set (f ∷ fs) zero v all is =
    let both = and_parts (is_field f) (list_all is_field fs) all in
    ap₂ (λ s t. s && t) (ap₂ (λ s t. s && t) (and_parts (is_token f.0) (is_value f.1) both.0).0 is) both.1
all_set (f ∷ fs) (suc at) v all is =
    let both = and_parts (is_field f) (list_all is_field fs) all in ap₂ (λ s t. s && t) both.0 (all_set fs at v both.1 is)

same_length : (fs : List Pair) (at : ℕ) (v : List ℕ) → length (value_set fs at v) ≡ length fs
same_length [] at v = refl
same_length (f ∷ fs) zero v = omega arith
same_length (f ∷ fs) (suc at) v = let rest = same_length fs at v in omega (arith, rest)

pub fields_value_set : (fs : List Pair) (at : ℕ) (v : List ℕ) → AreFields fs → is_value v ≡ true → AreFields (value_set fs at v)
fields_value_set fs at v are is = record { are = all_set fs at v are.are is; few = let few = are.few in let same = same_length fs at v in omega (arith, few, same) }

token_host : is_token (codes "Host") ≡ true
unfolding is_token_byte
token_host = refl

pub host_field : (n v : List ℕ) → n ≡ codes "Host" → is_host v ≡ true → is_field (n, v) ≡ true
host_field n v is host = ap₂ (λ s t. s && t) (ap is_token is ∙ token_host) (host_is_value v host)

pub fields_more : (fs : List Pair) (f : Pair) → AreFields fs → is_field f ≡ true → length fs < 100 → AreFields (fs ++ f ∷ [])
fields_more fs f are is few = record {
  are = list_all-append is_field fs (f ∷ []) ∙ ap₂ (λ s t. s && t) are.are (ap (λ t. t && true) is);
  few = omega (arith, few, length-append fs (f ∷ []));
}
