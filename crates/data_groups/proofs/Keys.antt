-- Keys have the same bytes exactly where they equal the same items.
use Rattle.std.proofs.Common.{◌≡◌, ℕ, ℤ, ◌-◌, ◌/◌, ◌^◌, ◌<◌, ◌≤◌, ◌==◌, ◌&&◌, Bool, true, false, cond}
use Rattle.std.proofs.Common.{List, Option, Some, None, sym, refl, ap, subst, ◌∙◌, arith}
use Rattle.std.proofs.Common.{to_z-of_z}
use mir.ValLaws.{of_z_fits}
use Rattle.std.specs.Prelude.{FitsSigned, nat_eq, nat_lt, nat_le, pos, neg_ℤ}
use Rattle.std.specs.Int.{cast_signed, cast_unsigned, from_be_bytes, to_be_bytes, w32, w64}
use Rattle.std.specs.Ordering.{int_eq}
use Rattle.std.specs.Str.{bytes_eq}
use Rattle.std.proofs.lemmas.Bool.{eq-eqb, eqb-true, leb-true, ltb-true}
use Rattle.std.proofs.lemmas.Int.{ints}
use Rattle.std.proofs.lemmas.Bool.Decides.{Decides-int_eq}
use Rattle.std.proofs.lemmas.Nat.{from_be_bytes-to_be_bytes_4, from_be_bytes-to_be_bytes_8}
use Rattle.std.proofs.lemmas.Slice.Eq.{bytes_eq-Decides}
use Rattle.std.proofs.Math.Nat.{div-le_self}
use Rattle.px_bytes.specs.declared.addr.Net4.{Net4}
use Rattle.std.specs.Str.Parse.{starts_with_minus, without_leading_sign}
use Rattle.px_bytes.specs.White.{trimmed}
use Rattle.px_bytes.specs.Whole.{magnitude, signed, whole}
use Rattle.tcl_encodings.specs.Addresses.{network_of, spells_network, written}
use Rattle.data_groups.specs.Index.{network_bytes, number_bytes, prefix_bytes}
use Rattle.data_groups.specs.Networks.{has_address}

-- two tests that hold together
agree : (a b : Bool) → (a ≡ true → b ≡ true) → (b ≡ true → a ≡ true) → a ≡ b
agree true true f g = refl
agree true false f g = sym (f refl)
agree false true f g = g refl
agree false false f g = refl

-- ---- numbers
pub same_number_bytes : (a b : ℤ) → FitsSigned w64 a → FitsSigned w64 b → bytes_eq (number_bytes a) (number_bytes b) ≡ int_eq a b
same_number_bytes a b fa fb = agree _ _
    (λ same.
    let low : cast_unsigned w64 a < 2 ^ 64 = omega (arith, of_z_fits w64 a fa) in
    let high : cast_unsigned w64 b < 2 ^ 64 = omega (arith, of_z_fits w64 b fb) in
    let bytes : number_bytes a ≡ number_bytes b = (bytes_eq-Decides _ _).0 same in
    let back = ap (from_be_bytes w64) bytes in
    let bits : cast_unsigned w64 a ≡ cast_unsigned w64 b = sym (from_be_bytes-to_be_bytes_8 _ low) ∙ back ∙ from_be_bytes-to_be_bytes_8 _ high in
    (Decides-int_eq a b).1 (sym (to_z-of_z fa) ∙ ap (cast_signed w64) bits ∙ to_z-of_z fb))
    (λ same. (bytes_eq-Decides _ _).1 (ap number_bytes ((Decides-int_eq a b).0 same)))

-- ---- networks
same_be : (x y : ℕ) → x < 2 ^ 32 → y < 2 ^ 32 → bytes_eq (to_be_bytes w32 x) (to_be_bytes w32 y) ≡ (x == y)
same_be x y fx fy = agree _ _
    (λ same.
    let bytes : to_be_bytes w32 x ≡ to_be_bytes w32 y = (bytes_eq-Decides _ _).0 same in
    let back = ap (from_be_bytes w32) bytes in
    eq-eqb x y (sym (from_be_bytes-to_be_bytes_4 x fx) ∙ back ∙ from_be_bytes-to_be_bytes_4 y fy))
    (λ same. (bytes_eq-Decides _ _).1 (ap (to_be_bytes w32) (eqb-true x y same)))

prefix_fits : (ip k : ℕ) → ip < 2 ^ 32 → ip / 2 ^ k < 2 ^ 32
prefix_fits ip k fits = omega (arith, div-le_self ip (2 ^ k))

and_same : (a b c d : Bool) → a ≡ b → (a ≡ true → c ≡ d) → (a && c) ≡ (b && d)
and_same true b c d e same = rw (← e) (same refl)
and_same false b c d e same = rw (← e) refl

same_bits : (a b : ℕ) → nat_eq a b ≡ (b == a)
same_bits a b = agree _ _ (λ e. eq-eqb b a (sym (eqb-true a b e))) (λ e. eq-eqb a b (sym (eqb-true b a e)))

-- an address and a network have the same bytes where the address is in the network
pub in_network : (bits ip : ℕ) (net : Net4) → ip < 2 ^ 32 → net.ip < 2 ^ 32
    → bytes_eq (prefix_bytes bits ip) (network_bytes net) ≡ has_address bits ip (Some net)
in_network bits ip net fits net_fits =
    let small = prefix_fits ip (32 - bits) fits in
    let net_small = prefix_fits net.ip (32 - net.bits) net_fits in
    and_same _ _ _ _ (same_bits bits net.bits)
    (λ same. same_be _ _ small net_small ∙ ap (λ k. ip / 2 ^ (32 - k) == net.ip / 2 ^ (32 - net.bits)) (eqb-true bits net.bits same))

-- ---- what keys are
network_test : (a b c : Bool) → ((a && b) && c) ≡ true → (a ≡ true) × (b ≡ true)
network_test false b c h = cc
network_test true false c h = cc
network_test true true c h = (refl, refl)

pub record NetworkFits (net : Net4) : Type 0 where
  pub ip : net.ip < 2 ^ 32
  pub bits : net.bits ≤ 32

pub network_fits : (text : List ℕ) (net : Net4) → network_of text ≡ Some net → NetworkFits net
network_fits text net is =
    let w = written 0 0 text in
    elim (spells_network text w) as (λ b. spells_network text w ≡ b → cond b (Some w) None ≡ Some net → NetworkFits net) [
      | true ↦ λ h e.
          let t = network_test (nat_lt w.ip (2 ^ 32)) (nat_le w.bits 32) _ h in
          let same : w ≡ net = cc in
          subst (λ n. NetworkFits n) same (record { ip = ltb-true _ _ t.0; bits = leb-true _ _ t.1 })
      | false ↦ λ h e. cc
    ] refl is

signed_fits : (minus : Bool) (size : Option ℕ) (z : ℤ) → signed minus size ≡ Some z → FitsSigned w64 z
signed_fits minus None z is = cc
signed_fits true (Some n) z is =
    elim (nat_le n (2 ^ 63)) as (λ b. nat_le n (2 ^ 63) ≡ b → cond b (Some (neg_ℤ (pos n))) None ≡ Some z → FitsSigned w64 z) [
      | true ↦ λ h e. let small = leb-true _ _ h in let same : neg_ℤ (pos n) ≡ z = cc in subst (FitsSigned w64) same (omega (arith, ints))
      | false ↦ λ h e. cc
    ] refl is
signed_fits false (Some n) z is =
    elim (nat_lt n (2 ^ 63)) as (λ b. nat_lt n (2 ^ 63) ≡ b → cond b (Some (pos n)) None ≡ Some z → FitsSigned w64 z) [
      | true ↦ λ h e. let small = ltb-true _ _ h in let same : pos n ≡ z = cc in subst (FitsSigned w64) same (omega (arith, ints))
      | false ↦ λ h e. cc
    ] refl is

pub whole_fits : (text : List ℕ) (z : ℤ) → whole text ≡ Some z → FitsSigned w64 z
whole_fits text z is = signed_fits (starts_with_minus (trimmed text)) (magnitude (without_leading_sign (trimmed text))) z is
