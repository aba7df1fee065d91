-- Which networks texts are.
use Rattle.std.proofs.Common.{◌≡◌, ℕ, ◌+◌, ◌-◌, ◌*◌, ◌/◌, ◌%◌, ◌^◌, ◌<◌, ◌≤◌, ◌==◌, Bool, true, false, ◌&&◌}
use Rattle.std.proofs.Common.{◌||◌, cond, ◌⊎◌, inl, inr, List, [], ◌∷◌, ◌++◌, Option, Some, None}
use Rattle.std.proofs.Common.{IfSome, IfNone, sym, ap, ap₂, refl, ◌∙◌, arith, append_assoc}
use Rattle.std.specs.Prelude.{codes, nat_lt, nat_le}
use Rattle.std.specs.Fmt.{decimal}
use Rattle.std.specs.Net.Text.{dotted_text}
use Rattle.std.specs.Str.{bytes_eq}
use Rattle.std.specs.Str.Parse.{AllDigits}
use Rattle.std.proofs.lemmas.Bool.{ne_eqb, eq-eqb, eqb-true, lt-ltb, ltb-true, le-leb, leb-true}
use Rattle.std.proofs.lemmas.Fmt.{digits_decimal, digits_value-decimal}
use Rattle.std.proofs.lemmas.List.{append-nil}
use Rattle.std.proofs.lemmas.Slice.Eq.{bytes_eq-Decides}
use Rattle.std.proofs.lemmas.Str.Parse.{FoldsDigits, IsNumeralModel, numerals_by_fold, tells_digits}
use Rattle.std.proofs.lemmas.Str.Parse.{digit_from_value}
use Rattle.std.proofs.Math.Bool.{or-true}
use Rattle.px_bytes.specs.Address.{ip_text}
use Rattle.px_bytes.specs.Net.{net_text, SpellsNet, IsNet}
use Rattle.px_bytes.specs.declared.addr.Net4.{Net4}
use Rattle.tcl_encodings.specs.Addresses.{number_behind, written, spells_address, address_of}
use Rattle.tcl_encodings.specs.Addresses.{spells_network, network_of}

-- ---- a network's text writes the network

folds : FoldsDigits number_behind
folds = record { empty = λ n. refl; more = λ n c cs range. refl }

own : IsNumeralModel (AllDigits 10) (number_behind 0)
own = numerals_by_fold (AllDigits 10) tells_digits number_behind folds

other : (a b : Bool) (x y z w : Net4) → a ≡ false → b ≡ false → z ≡ w → cond a x (cond b y z) ≡ w
other a b x y z w e f same = rw (e, f) same

digits_written : (ip n : ℕ) (ds rest : List ℕ) → AllDigits 10 ds → written ip n (ds ++ rest) ≡ written ip (number_behind n ds) rest
digits_written ip n [] rest h = refl
digits_written ip n (d ∷ ds) rest h =
    let range = digit_from_value d h.0 in
    other (d == 46) (d == 47) _ _ _ _ (ne_eqb d 46 (λ e. omega arith)) (ne_eqb d 47 (λ e. omega arith)) (digits_written ip (n * 10 + (d - 48)) ds rest h.1)

number_written : (ip n : ℕ) (rest : List ℕ) → n < 256 → written ip 0 (decimal n ++ rest) ≡ written ip n rest
number_written ip n rest small =
    let fits : n < 2 ^ 64 = omega arith in
    digits_written ip 0 (decimal n) rest (digits_decimal own n fits) ∙ ap (λ k. written ip k rest) (digits_value-decimal own n fits)

dotted_written : (a b c d : ℕ) (rest : List ℕ) → a < 256 → b < 256 → c < 256 → d < 256
    → written 0 0 (dotted_text a b c d ++ rest) ≡ written (((0 * 256 + a) * 256 + b) * 256 + c) d rest
dotted_written a b c d rest ha hb hc hd =
    let last : List ℕ = decimal d ++ rest in
    let third : List ℕ = decimal c ++ (46 ∷ last) in
    let second : List ℕ = decimal b ++ (46 ∷ third) in
    let parts : dotted_text a b c d ++ rest ≡ decimal a ++ (46 ∷ second) = simp append_assoc in
    ap (written 0 0) parts ∙ number_written 0 a (46 ∷ second) ha ∙ number_written (0 * 256 + a) b (46 ∷ third) hb
    ∙ number_written ((0 * 256 + a) * 256 + b) c (46 ∷ last) hc ∙ number_written (((0 * 256 + a) * 256 + b) * 256 + c) d rest hd

-- the four numbers of an address, and the last of them apart
front : ℕ → ℕ
front ip = ((0 * 256 + ip / 2 ^ 24) * 256 + ip / 2 ^ 16 % 256) * 256 + ip / 2 ^ 8 % 256

ip_written : (ip : ℕ) (rest : List ℕ) → ip < 2 ^ 32 → written 0 0 (ip_text ip ++ rest) ≡ written (front ip) (ip % 256) rest
unfolding front
ip_written ip rest fits = dotted_written _ _ _ _ rest (omega arith) (omega arith) (omega arith) (omega arith)

four_numbers : (ip : ℕ) → ip < 2 ^ 32 → front ip * 256 + ip % 256 ≡ ip
unfolding front
four_numbers ip fits = omega arith

abbrev network : ℕ → ℕ → Net4
network ip bits = record { ip = ip; bits = bits }

alone_written : (text : List ℕ) (ip : ℕ) → ip < 2 ^ 32 → text ≡ ip_text ip → written 0 0 text ≡ network ip 32
alone_written text ip fits e =
    ap (written 0 0) (e ∙ sym (append-nil (ip_text ip))) ∙ ip_written ip [] fits ∙ ap (λ n. network n 32) (four_numbers ip fits)

net_written : (text : List ℕ) (net : Net4) → IsNet net → SpellsNet text net → written 0 0 text ≡ net
net_written text net is (inl e) =
    let fits : net.bits < 2 ^ 64 = omega (arith, is.bits) in
    ap (written 0 0) (e ∙ append_assoc (ip_text net.ip) (codes "/") (decimal net.bits)) ∙ ip_written net.ip (47 ∷ decimal net.bits) is.ip
    ∙ ap₂ network (four_numbers net.ip is.ip) (digits_value-decimal own net.bits fits)
net_written text net is (inr e) = alone_written text net.ip is.ip e.0 ∙ ap (network net.ip) (sym e.1)

-- ---- the tests of the definitions

both_hold : (a b : Bool) → (a && b) ≡ true → (a ≡ true) × (b ≡ true)
both_hold false b h = cc
both_hold true false h = cc
both_hold true true h = (refl, refl)

tests_hold : (a b c d e : Bool) → ((a && b) && (c || (d && e))) ≡ true → (a ≡ true) × (b ≡ true) × ((c ≡ true) ⊎ ((d ≡ true) × (e ≡ true)))
tests_hold false b c d e h = cc
tests_hold true false c d e h = cc
tests_hold true true false false e h = cc
tests_hold true true false true false h = cc
tests_hold true true false true true h = (refl, refl, inr (refl, refl))
tests_hold true true true d e h = (refl, refl, inl refl)

spelled_test : (text : List ℕ) (net : Net4) → IsNet net → SpellsNet text net → spells_network text net ≡ true
spelled_test text net is (inl e) = rw (lt-ltb _ _ is.ip, le-leb _ _ is.bits, (bytes_eq-Decides text (net_text net)).1 e) refl
spelled_test text net is (inr e) =
    rw (lt-ltb _ _ is.ip, le-leb _ _ is.bits, (bytes_eq-Decides text (ip_text net.ip)).1 e.0, eq-eqb net.bits 32 e.1) (or-true _)

record Spelled (text : List ℕ) (net : Net4) : Type 0 where
  is : IsNet net
  spells : SpellsNet text net

test_spelled : (text : List ℕ) (net : Net4) → spells_network text net ≡ true → Spelled text net
test_spelled text net h =
    let t = tests_hold (nat_lt net.ip (2 ^ 32)) (nat_le net.bits 32) (bytes_eq text (net_text net)) (bytes_eq text (ip_text net.ip)) (net.bits == 32) h in
    record {
      is = record { ip = ltb-true _ _ t.0; bits = leb-true _ _ t.1 };
      spells = elim t.2 [
        | inl e ↦ inl ((bytes_eq-Decides text (net_text net)).0 e)
        | inr e ↦ inr ((bytes_eq-Decides text (ip_text net.ip)).0 e.0, eqb-true net.bits 32 e.1)
      ];
    }

-- ---- what was read

pub network_is : (text : List ℕ) (r : Option Net4) → IfSome r (λ net. SpellsNet text net × (net.bits ≤ 32)) → IfSome r (λ net. net.ip < 2 ^ 32)
    → IfNone r ((net : Net4) → IsNet net → ¬ SpellsNet text net) → r ≡ network_of text
network_is text (Some net) found fits none =
    let is : IsNet net = record { ip = fits; bits = found.1 } in
    rw (net_written text net is found.0, spelled_test text net is found.0) refl
network_is text None found fits none =
    let net = written 0 0 text in
    elim (spells_network text net) as (λ b. spells_network text net ≡ b → None ≡ cond b (Some net) None) [
      | true ↦ λ h. let s = test_spelled text net h in absurd (none net s.is s.spells)
      | false ↦ λ h. refl
    ] refl

pub address_is : (text : List ℕ) (r : Option ℕ) → IfSome r (λ ip. text ≡ ip_text ip) → IfSome r (λ ip. ip < 2 ^ 32)
    → IfNone r ((ip : ℕ) → ip < 2 ^ 32 → ¬ (text ≡ ip_text ip)) → r ≡ address_of text
address_is text (Some ip) found fits none =
    rw (alone_written text ip fits found, lt-ltb _ _ fits, (bytes_eq-Decides text (ip_text ip)).1 found) refl
address_is text None found fits none =
    let ip = (written 0 0 text).ip in
    elim (spells_address text ip) as (λ b. spells_address text ip ≡ b → None ≡ cond b (Some ip) None) [
      | true ↦ λ h. let t = both_hold (nat_lt ip (2 ^ 32)) (bytes_eq text (ip_text ip)) h in absurd (none ip (ltb-true _ _ t.0) ((bytes_eq-Decides text (ip_text ip)).0 t.1))
      | false ↦ λ h. refl
    ] refl
