-- Which texts are addresses.
use Rattle.std.proofs.Common.{◌≡◌, ℕ, suc, ◌+◌, ◌-◌, ◌*◌, ◌/◌, ◌%◌, ◌^◌, ◌<◌, ◌≤◌, Bool, true}
use Rattle.std.proofs.Common.{false, not, cond, List, [], ◌∷◌, ◌++◌, length, get_or, take, drop}
use Rattle.std.proofs.Common.{sym, ap, refl, ◌∙◌, arith, append_assoc, length-append}
use Rattle.std.specs.Prelude.{codes}
use Rattle.std.specs.Fmt.{decimal}
use Rattle.std.specs.Int.{w32, from_be_bytes}
use Rattle.std.specs.Str.Parse.{AllDigits}
use Rattle.std.specs.Net.Text.{dotted_text}
use Rattle.std.specs.Net.Grammar.{IsDotted}
use Rattle.std.proofs.lemmas.Bool.{ne_eqb}
use Rattle.std.proofs.lemmas.Bool.Decides.{nat_tests}
use Rattle.std.proofs.lemmas.List.Sums.{passes_at_first}
use Rattle.std.proofs.lemmas.Fmt.{digits_decimal, decimal_injective}
use Rattle.std.proofs.lemmas.List.{take_at, drop_at, take_rest, drop_more, length-take-le}
use Rattle.std.proofs.lemmas.List.{take-append-drop}
use Rattle.std.proofs.lemmas.Str.Parse.{digit_from_value}
use Rattle.px_bytes.specs.declared.addr.Addr.{Addr}
use Rattle.px_bytes.specs.Address.{ip_text, addr_text, IsAddr, is_colon, colon_at, SplitsAtColon}
use Rattle.px_bytes.proofs.Decimals.{own}

-- the four numbers of an address, and the address of four numbers
pub dotted_is_ip : (text octets : List ℕ) → IsDotted text octets → text ≡ ip_text (from_be_bytes w32 octets)
dotted_is_ip text octets d =
    let ip : ℕ = d.a * 256 ^ 3 + d.b * 256 ^ 2 + d.c * 256 ^ 1 + d.d in
    let value : from_be_bytes w32 octets ≡ ip = ap (from_be_bytes w32) d.value ∙ refl in
    let a : ip / 2 ^ 24 ≡ d.a = omega arith in
    let b : ip / 2 ^ 16 % 256 ≡ d.b = omega arith in
    let c : ip / 2 ^ 8 % 256 ≡ d.c = omega arith in
    let e : ip % 256 ≡ d.d = omega arith in
    rw (value, a, b, c, e) d.spelled

pub ip_is_dotted : (text : List ℕ) (ip : ℕ) → ip < 2 ^ 32 → text ≡ ip_text ip → IsDotted text ((ip / 2 ^ 24) ∷ (ip / 2 ^ 16 % 256) ∷ (ip / 2 ^ 8 % 256) ∷ (ip % 256) ∷ [])
ip_is_dotted text ip fits e = record {
  a = ip / 2 ^ 24;
  b = ip / 2 ^ 16 % 256;
  c = ip / 2 ^ 8 % 256;
  d = ip % 256;
  fit = (omega arith, omega arith, omega arith, omega arith);
  value = refl;
  spelled = e;
}

-- no colon stands in the bytes
abbrev pub NoColon : List ℕ → Type 0
NoColon [] = Unit {0}
NoColon (b ∷ bs) = (is_colon b ≡ false) × NoColon bs

no_colon_append : (xs ys : List ℕ) → NoColon xs → NoColon ys → NoColon (xs ++ ys)
no_colon_append [] ys p q = q
no_colon_append (x ∷ xs) ys p q = (p.0, no_colon_append xs ys p.1 q)

digits_no_colon : (ds : List ℕ) → AllDigits 10 ds → NoColon ds
digits_no_colon [] h = tt
digits_no_colon (d ∷ ds) h =
    let range = digit_from_value d h.0 in
    (ne_eqb d 58 (λ e. omega arith), digits_no_colon ds h.1)

decimal_no_colon : (n : ℕ) → n < 2 ^ 64 → NoColon (decimal n)
decimal_no_colon n fits = digits_no_colon (decimal n) (digits_decimal own n fits)

dotted_no_colon : (a b c d : ℕ) → a < 256 → b < 256 → c < 256 → d < 256 → NoColon (dotted_text a b c d)
dotted_no_colon a b c d ha hb hc hd =
    let dot : NoColon (codes ".") = (refl, tt) in
    no_colon_append _ _ (no_colon_append _ _ (no_colon_append _ _ (no_colon_append _ _ (no_colon_append _ _ (no_colon_append _ _ (decimal_no_colon a (omega arith)) dot) (decimal_no_colon b (omega arith))) dot) (decimal_no_colon c (omega arith))) dot) (decimal_no_colon d (omega arith))

pub ip_no_colon : (ip : ℕ) → ip < 2 ^ 32 → NoColon (ip_text ip)
ip_no_colon ip fits = dotted_no_colon _ _ _ _ (omega arith) (omega arith) (omega arith) (omega arith)

colon_step : (b : Bool) (k n : ℕ) → b ≡ false → k ≡ n → cond (not b) (1 + k) 0 ≡ suc n
colon_step b k n e same = rw e (omega arith)

pub colon_behind : (front back : List ℕ) → NoColon front → colon_at (front ++ (58 ∷ back)) ≡ length front
colon_behind [] back h = refl
colon_behind (b ∷ bs) back h = colon_step (is_colon b) _ _ h.0 (colon_behind bs back h.1)

-- a text is split at its colon in one way
pub one_split : (text front back ip port : List ℕ) → SplitsAtColon text front back → NoColon ip → text ≡ ip ++ codes ":" ++ port → (front ≡ ip) × (back ≡ port)
one_split text front back ip port split none e =
    let whole : text ≡ ip ++ (58 ∷ port) = e ∙ append_assoc ip _ port in
    let other : text ≡ front ++ (58 ∷ back) = split.joined ∙ append_assoc front _ back in
    let size : length front ≡ length ip = split.first ∙ ap colon_at whole ∙ colon_behind ip port none in
    let fronts : front ≡ ip = sym (take_at front (58 ∷ back) (length ip) size) ∙ ap (take (length ip)) (sym other ∙ whole) ∙ take_at ip (58 ∷ port) (length ip) refl in
    let backs : 58 ∷ back ≡ 58 ∷ port = sym (drop_at front (58 ∷ back) (length ip) size) ∙ ap (drop (length ip)) (sym other ∙ whole) ∙ drop_at ip (58 ∷ port) (length ip) refl in
    (fronts, cc)

-- a text that is an address has a colon
pub addr_has_colon : (text : List ℕ) (addr : Addr) → IsAddr addr → text ≡ addr_text addr → colon_at text < length text
addr_has_colon text addr is e =
    let whole : text ≡ ip_text addr.ip ++ (58 ∷ decimal addr.port) = e ∙ append_assoc (ip_text addr.ip) _ _ in
    let at : colon_at text ≡ length (ip_text addr.ip) = ap colon_at whole ∙ colon_behind (ip_text addr.ip) _ (ip_no_colon addr.ip is.ip) in
    omega (arith, ap length whole, length-append (ip_text addr.ip) (58 ∷ decimal addr.port))

-- a text with no colon is no address
pub not_without_colon : (text : List ℕ) → colon_at text ≡ length text → (addr : Addr) → IsAddr addr → ¬ (text ≡ addr_text addr)
not_without_colon text none addr is e =
    let has = addr_has_colon text addr is e in
    omega arith

-- nor is one whose front is no address of four numbers
pub not_without_ip : (text front back : List ℕ) → SplitsAtColon text front back → ((ip : ℕ) → ip < 2 ^ 32 → ¬ (front ≡ ip_text ip)) → (addr : Addr) → IsAddr addr → ¬ (text ≡ addr_text addr)
not_without_ip text front back split none addr is e =
    none addr.ip is.ip (one_split text front back _ _ split (ip_no_colon addr.ip is.ip) e).0

-- nor one whose back is no port
pub not_without_port : (text front back : List ℕ) → SplitsAtColon text front back → ((n : ℕ) → n ≤ 65535 → ¬ (back ≡ decimal n)) → (addr : Addr) → IsAddr addr → ¬ (text ≡ addr_text addr)
not_without_port text front back split none addr is e =
    none addr.port (omega (arith, is.port)) (one_split text front back _ _ split (ip_no_colon addr.ip is.ip) e).1

-- nor one whose port is 0
pub not_at_zero : (text front back : List ℕ) (n : ℕ) → SplitsAtColon text front back → back ≡ decimal n → n ≤ 0 → (addr : Addr) → IsAddr addr → ¬ (text ≡ addr_text addr)
not_at_zero text front back n split zero_port low addr is e =
    let port = (one_split text front back _ _ split (ip_no_colon addr.ip is.ip) e).1 in
    let same : n ≡ addr.port = decimal_injective n addr.port (omega arith) (omega (arith, is.port)) (sym zero_port ∙ port) in
    omega (arith, is.some)

-- what `position` found of a colon splits the text
pub splits_at : (text : List ℕ) (at : ℕ) → at ≡ colon_at text → at < length text → SplitsAtColon text (take at text) (take (length text - (at + 1)) (drop (at + 1) text))
splits_at text at e inside = record {
  joined =
      let found : is_colon (get_or text at 0) ≡ true = ap (λ k. is_colon (get_or text k 0)) e ∙ passes_at_first is_colon text 0 (omega arith) in
      let colon : get_or text at 0 ≡ 58 = grind (arith, nat_tests) in
      let split : take at text ++ drop at text ≡ text = take-append-drop at text in
      let behind : drop at text ≡ 58 ∷ drop (at + 1) text = drop_more text at 0 inside ∙ ap (λ b. b ∷ drop (at + 1) text) colon in
      rw (take_rest text (at + 1)) (sym split ∙ ap (λ t. take at text ++ t) behind ∙ sym (append_assoc (take at text) (58 ∷ []) (drop (at + 1) text)));
  first = length-take-le at text (omega arith) ∙ e;
}
