-- Numbers, addresses and causes read exactly.
use Rattle.std.proofs.Common.{◌≡◌, ℕ, ◌<◌, ◌≤◌, ◌^◌, Bool, true, false, cond, List, [], ◌∷◌, ◌++◌, find, Option, Some, None, IfSome, IfNone, refl, sym, ap, subst, ◌∙◌, append_assoc, arith}
use Rattle.std.specs.Prelude.{codes}
use Rattle.std.specs.Fmt.{decimal, digits}
use Rattle.std.specs.Str.{bytes_eq}
use Rattle.std.proofs.lemmas.Fmt.{decimal_injective}
use Rattle.std.proofs.lemmas.List.{append_cancel_right}
use Rattle.core_events.specs.declared.note.Cause.{Cause}
use Rattle.core_events.specs.declared.note.Cause.TheVariants as cause
use Rattle.journal_text.proofs.Addresses.{SmallAddr, same_addr_text, same_ip}
use Rattle.px_bytes.specs.Address.{addr_text, ip_text}
use Rattle.px_bytes.specs.declared.addr.Addr.{Addr}
use Rattle.journal_value.specs.Exact.{Anything, Exact}
use Rattle.journal_value.specs.Words.{IsDest, IsLong, IsPortless, cause_words, every_plain, plain_text}
use Rattle.journal_value.proofs.Found.{by_text}

pub number_exact : (word : List ℕ) (r : Option ℕ) → IfSome r (λ n. (word ≡ decimal n) × (n ≤ 18446744073709551615)) → IfNone r ((n : ℕ) → n ≤ 18446744073709551615 → ¬ (word ≡ decimal n)) → Exact ℕ (List ℕ) decimal IsLong word r
number_exact word None found none = record { is_written = tt; is_only = λ n fits same. absurd (none n fits (sym same)) }
number_exact word (Some m) found none = record {
  is_written = sym found.0;
  is_only = λ n fits same. ap Some (sym (decimal_injective n m (let f : n ≤ 18446744073709551615 = fits in omega arith) (let f = found.1 in omega arith) (same ∙ found.0)));
}

-- ---- addresses

small : (a : Addr) → IsDest a → SmallAddr a
small a is = record { ip = is.0; port = is.1 }

pub addr_exact : (word : List ℕ) (addr : Addr) → word ≡ addr_text addr → addr.ip < 2 ^ 32 → addr.port < 2 ^ 16 → Exact Addr (List ℕ) addr_text IsDest word (Some addr)
addr_exact word addr is ip port = record {
  is_written = sym is;
  is_only = λ a fits same. ap Some (sym (same_addr_text a addr (small a fits) (record { ip = ip; port = port }) (same ∙ is)));
}

zero_text : decimal 0 ≡ codes "0"
unfolding digits
zero_text = refl

portless_text : (a : Addr) → a.port ≡ 0 → addr_text a ≡ ip_text a.ip ++ codes ":0"
portless_text a e =
    ap (λ n. ip_text a.ip ++ codes ":" ++ decimal n) e ∙ ap (λ t. ip_text a.ip ++ codes ":" ++ t) zero_text
    ∙ append_assoc (ip_text a.ip) (codes ":") (codes "0")

pub no_suffix : (word : List ℕ) → ((front : List ℕ) → ¬ (word ≡ front ++ codes ":0")) → Exact Addr (List ℕ) addr_text IsPortless word None
no_suffix word none = record {
  is_written = tt;
  is_only = λ a fits same. absurd (none (ip_text a.ip) (sym same ∙ portless_text a fits.1));
}

-- an address with port 0 is one that is written in front of it
front_is : (word front : List ℕ) → word ≡ front ++ codes ":0" → (a : Addr) → IsPortless a → addr_text a ≡ word → front ≡ ip_text a.ip
front_is word front is a fits same = append_cancel_right front (ip_text a.ip) (codes ":0") (sym is ∙ sym same ∙ portless_text a fits.1)

pub no_ip : (word front : List ℕ) → word ≡ front ++ codes ":0" → ((ip : ℕ) → ip < 2 ^ 32 → ¬ (front ≡ ip_text ip)) → Exact Addr (List ℕ) addr_text IsPortless word None
no_ip word front is none = record {
  is_written = tt;
  is_only = λ a fits same. absurd (none a.ip fits.0 (front_is word front is a fits same));
}

same_portless : (a b : Addr) → a.ip ≡ b.ip → a.port ≡ b.port → a ≡ b
same_portless a b p q =
    let with_ip : ℕ → Addr = λ n. record { ip = n; port = a.port } in
    let with_port : ℕ → Addr = λ n. record { ip = b.ip; port = n } in
    ap with_ip p ∙ ap with_port q

pub portless_exact : (word front : List ℕ) (n : ℕ) → word ≡ front ++ codes ":0" → front ≡ ip_text n → n < 2 ^ 32 → Exact Addr (List ℕ) addr_text IsPortless word (Some (record { ip = n; port = 0 }))
portless_exact word front n is ip low =
    let found : Addr = record { ip = n; port = 0 } in
    record {
      is_written = portless_text found refl ∙ ap (λ t. t ++ codes ":0") (sym ip) ∙ sym is;
      is_only = λ a fits same.
          let texts = sym (front_is word front is a fits same) ∙ ip in
          ap Some (sym (same_portless a found (same_ip a.ip n fits.0 low texts) fits.1));
    }

-- ---- causes of one word

abbrev IsPlain : Cause → Type 0
IsPlain c = cause_words c ≡ plain_text c ∷ []

each_plain : (c : Cause) → IsPlain c → find (λ y. bytes_eq (plain_text y) (plain_text c)) every_plain ≡ Some c
each_plain cause.Closed h = refl
each_plain cause.Unselected h = refl
each_plain cause.Rejected h = refl
each_plain cause.Memory h = refl
each_plain (cause.Tcl kind) h = cc
each_plain (cause.Http fault) h = cc
each_plain (cause.Cut reason) h = cc

one_word : (c : Cause) (word : List ℕ) → cause_words c ≡ word ∷ [] → IsPlain c
one_word cause.Closed word h = refl
one_word cause.Unselected word h = refl
one_word cause.Rejected word h = refl
one_word cause.Memory word h = refl
one_word (cause.Tcl kind) word h = cc
one_word (cause.Http fault) word h = cc
one_word (cause.Cut reason) word h = cc

abbrev AllPlain : List Cause → Type 0
AllPlain [] = Unit {0}
AllPlain (c ∷ cs) = IsPlain c × AllPlain cs

first_plain : (b : Bool) (d c : Cause) (o : Option Cause) → IsPlain d → (o ≡ Some c → IsPlain c) → cond b (Some d) o ≡ Some c → IsPlain c
first_plain true d c o plain rest h = let same : d ≡ c = cc in subst IsPlain same plain
first_plain false d c o plain rest h = rest h

found_plain : (p : Cause → Bool) (cs : List Cause) → AllPlain cs → (c : Cause) → find p cs ≡ Some c → IsPlain c
found_plain p [] all c e = cc
found_plain p (d ∷ cs) all c e = first_plain (p d) d c (find p cs) all.0 (λ h. found_plain p cs all.1 c h) e

pub plain_exact : (word : List ℕ) → Exact Cause (List (List ℕ)) cause_words Anything (word ∷ []) (find (λ y. bytes_eq (plain_text y) word) every_plain)
plain_exact word = record {
  is_written = written (find (λ y. bytes_eq (plain_text y) word) every_plain) refl exact.is_written;
  is_only = λ c any same.
      let plain = one_word c word same in
      let text : plain_text c ∷ [] ≡ word ∷ [] = sym plain ∙ same in
      exact.is_only c plain (cc text);
}
  where
    exact : Exact Cause (List ℕ) plain_text IsPlain word (find (λ y. bytes_eq (plain_text y) word) every_plain)
    exact = by_text Cause plain_text IsPlain every_plain each_plain word

    written : (r : Option Cause) → find (λ y. bytes_eq (plain_text y) word) every_plain ≡ r → IfSome r (λ c. plain_text c ≡ word) → IfSome r (λ c. cause_words c ≡ word ∷ [])
    written None e h = tt
    written (Some c) e h = found_plain (λ y. bytes_eq (plain_text y) word) every_plain (refl, (refl, (refl, (refl, tt)))) c e ∙ ap (λ t. t ∷ []) h
