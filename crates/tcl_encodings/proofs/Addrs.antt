-- Which address with a port a text is.
use Rattle.std.proofs.Common.{◌≡◌, ℕ, ◌+◌, ◌^◌, ◌<◌, Bool, true, false, ◌&&◌, cond, List, [], ◌∷◌, ◌++◌}
use Rattle.std.proofs.Common.{Option, Some, None, IfSome, IfNone, length, take, drop, sym, refl, ap, ap₂}
use Rattle.std.proofs.Common.{◌∙◌, arith, append_assoc, length-append}
use Rattle.std.specs.Prelude.{nat_lt, unwrap_or}
use Rattle.std.specs.Fmt.{decimal}
use Rattle.std.specs.Str.{bytes_eq}
use Rattle.std.specs.Str.Parse.{digits_value}
use Rattle.std.proofs.lemmas.Bool.{cond-true, lt-ltb, ltb-true}
use Rattle.std.proofs.lemmas.Fmt.{digits_value-decimal}
use Rattle.std.proofs.lemmas.List.{take_at, drop_at}
use Rattle.std.proofs.lemmas.Slice.Eq.{bytes_eq-Decides}
use Rattle.px_bytes.specs.Address.{IsAddr, addr_text, colon_at, ip_text}
use Rattle.px_bytes.specs.declared.addr.Addr.{Addr}
use Rattle.px_bytes.proofs.Addresses.{colon_behind, ip_no_colon}
use Rattle.px_bytes.proofs.Decimals.{own}
use Rattle.tcl_encodings.specs.Addresses.{address_of}
use Rattle.tcl_encodings.proofs.Networks.{address_is}
use Rattle.tcl_encodings.specs.Addr.{addr_of, spells_addr, written_addr}

-- what an address's text writes
written_is : (text : List ℕ) (addr : Addr) → IsAddr addr → text ≡ addr_text addr → written_addr text ≡ addr
written_is text addr is e =
    let ip = ip_text addr.ip in
    let port = decimal addr.port in
    let whole : text ≡ ip ++ (58 ∷ port) = e ∙ append_assoc ip _ port in
    let at : colon_at text ≡ length ip = ap colon_at whole ∙ colon_behind ip port (ip_no_colon addr.ip is.ip) in
    let front : take (colon_at text) text ≡ ip = ap₂ take at whole ∙ take_at ip (58 ∷ port) (length ip) refl in
    let size : length (ip ++ 58 ∷ []) ≡ length ip + 1 = omega (arith, length-append ip (58 ∷ [])) in
    let back : drop (colon_at text + 1) text ≡ port =
    ap₂ (λ k t. drop (k + 1) t) at (whole ∙ sym (append_assoc ip (58 ∷ []) port)) ∙ drop_at (ip ++ 58 ∷ []) port (length ip + 1) size in
    let address : address_of ip ≡ Some addr.ip = sym (address_is ip (Some addr.ip) refl is.ip tt) in
    let small : addr.port < 2 ^ 64 = omega (arith, is.port) in
    ap₂ (λ i p. record { ip = i; port = p }) (ap (λ t. unwrap_or (address_of t) 0) front ∙ ap (λ o. unwrap_or o 0) address)
    (ap (digits_value 10) back ∙ digits_value-decimal own addr.port small)

spelled_test : (text : List ℕ) (addr : Addr) → IsAddr addr → text ≡ addr_text addr → spells_addr text addr ≡ true
spelled_test text addr is e =
    rw (lt-ltb _ _ is.ip, lt-ltb _ _ is.some, lt-ltb _ _ is.port, (bytes_eq-Decides text (addr_text addr)).1 e) refl

tests_hold : (a b c d : Bool) → ((a && b && c) && d) ≡ true → (a ≡ true) × (b ≡ true) × (c ≡ true) × (d ≡ true)
tests_hold false b c d h = cc
tests_hold true false c d h = cc
tests_hold true true false d h = cc
tests_hold true true true false h = cc
tests_hold true true true true h = (refl, refl, refl, refl)

pub addr_is : (text : List ℕ) (r : Option Addr) → IfSome r (λ addr. (text ≡ addr_text addr) × (0 < addr.port))
    → IfSome r (λ addr. (addr.ip < 2 ^ 32) × (addr.port < 2 ^ 16)) → IfNone r ((addr : Addr) → IsAddr addr → ¬ (text ≡ addr_text addr))
    → r ≡ addr_of text
addr_is text (Some addr) found fits none =
    let is : IsAddr addr = record { ip = fits.0; some = found.1; port = fits.1 } in
    let w = written_addr text in
    let same : w ≡ addr = written_is text addr is found.0 in
    let passes : spells_addr text w ≡ true = ap (spells_addr text) same ∙ spelled_test text addr is found.0 in
    sym (cond-true (spells_addr text w) (Some w) None passes ∙ ap Some same)
addr_is text None found fits none =
    let w = written_addr text in
    elim (spells_addr text w) as (λ b. spells_addr text w ≡ b → None ≡ cond b (Some w) None) [
      | true ↦ λ h.
          let t = tests_hold (nat_lt w.ip (2 ^ 32)) (nat_lt 0 w.port) (nat_lt w.port (2 ^ 16)) (bytes_eq text (addr_text w)) h in
          let is : IsAddr w = record { ip = ltb-true _ _ t.0; some = ltb-true _ _ t.1; port = ltb-true _ _ t.2 } in
          absurd (none w is ((bytes_eq-Decides text (addr_text w)).0 t.3))
      | false ↦ λ h. refl
    ] refl
