-- Numbers and addresses hold digits, dots and one colon alone, and each is written in its own way.
use Rattle.std.proofs.Common.{◌≡◌, ℕ, ◌+◌, ◌*◌, ◌/◌, ◌%◌, ◌^◌, ◌<◌, ◌≤◌, Bool, false, List, [], ◌∷◌}
use Rattle.std.proofs.Common.{◌++◌, sym, ap, refl, ◌∙◌, arith, append_assoc}
use Rattle.std.specs.Prelude.{◌==◌, codes}
use Rattle.std.specs.Fmt.{decimal}
use Rattle.std.specs.List.{All, slice_split}
use Rattle.std.specs.Net.Text.{dotted_text}
use Rattle.std.specs.Str.Parse.{AllDigits}
use Rattle.std.proofs.lemmas.Bool.{ne_eqb}
use Rattle.std.proofs.lemmas.Fmt.{digits_decimal, decimal_injective}
use Rattle.std.proofs.lemmas.List.Elements.{All-nil, All-cons}
use Rattle.std.proofs.lemmas.List.Splits.{slice_split_at, slice_split_none}
use Rattle.std.proofs.lemmas.Str.Parse.{digit_from_value}
use Rattle.px_bytes.specs.Address.{ip_text, addr_text, IsAddr}
use Rattle.px_bytes.specs.declared.addr.Addr.{Addr}
use Rattle.px_bytes.proofs.Decimals.{own}

-- no byte of the text passes the test
abbrev pub Without : (ℕ → Bool) → List ℕ → Type 0
Without test [] = Unit {0}
Without test (x ∷ xs) = (test x ≡ false) × Without test xs

pub as_all : (test : ℕ → Bool) (xs : List ℕ) → Without test xs → All (λ x. test x ≡ false) xs
as_all test [] h = All-nil _
as_all test (x ∷ xs) h = All-cons (λ y. test y ≡ false) x xs h.0 (as_all test xs h.1)

pub both_without : (test : ℕ → Bool) (xs ys : List ℕ) → Without test xs → Without test ys → Without test (xs ++ ys)
both_without test [] ys h k = k
both_without test (x ∷ xs) ys h k = (h.0, both_without test xs ys h.1 k)

-- no digit passes it
abbrev pub NoDigit : (ℕ → Bool) → Type 0
NoDigit test = (d : ℕ) → 48 ≤ d → d ≤ 57 → test d ≡ false

digits_without : (test : ℕ → Bool) → NoDigit test → (ds : List ℕ) → AllDigits 10 ds → Without test ds
digits_without test none [] h = tt
digits_without test none (d ∷ ds) h =
    let range = digit_from_value d h.0 in
    (none d (omega arith) (omega arith), digits_without test none ds h.1)

pub decimal_without : (test : ℕ → Bool) → NoDigit test → (n : ℕ) → n < 2 ^ 64 → Without test (decimal n)
decimal_without test none n fits = digits_without test none (decimal n) (digits_decimal own n fits)

abbrev is_dot : ℕ → Bool
is_dot byte = byte == 46

abbrev is_colon : ℕ → Bool
is_colon byte = byte == 58

no_dot : (n : ℕ) → n < 2 ^ 64 → All (λ x. is_dot x ≡ false) (decimal n)
no_dot n fits = as_all is_dot (decimal n) (decimal_without is_dot (λ d low high. ne_eqb d 46 (λ e. omega arith)) n fits)

-- the parts of an address are its four numbers
dotted_parts : (a b c d : ℕ) → a < 2 ^ 64 → b < 2 ^ 64 → c < 2 ^ 64 → d < 2 ^ 64 → slice_split is_dot (dotted_text a b c d) ≡ decimal a ∷ decimal b ∷ decimal c ∷ decimal d ∷ []
dotted_parts a b c d ha hb hc hd =
    simp append_assoc (slice_split_at is_dot (decimal a) 46 _ (no_dot a ha) refl
    ∙ ap (λ l. decimal a ∷ l) (slice_split_at is_dot (decimal b) 46 _ (no_dot b hb) refl
    ∙ ap (λ l. decimal b ∷ l) (slice_split_at is_dot (decimal c) 46 _ (no_dot c hc) refl
    ∙ ap (λ l. decimal c ∷ l) (slice_split_none is_dot (decimal d) (no_dot d hd)))))

same_dotted : (a b c d e f g h : ℕ) → a < 256 → b < 256 → c < 256 → d < 256 → e < 256 → f < 256 → g < 256 → h < 256 → dotted_text a b c d ≡ dotted_text e f g h → (a ≡ e) × (b ≡ f) × (c ≡ g) × (d ≡ h)
same_dotted a b c d e f g h pa pb pc pd pe pf pg ph same =
    let parts : decimal a ∷ decimal b ∷ decimal c ∷ decimal d ∷ [] ≡ decimal e ∷ decimal f ∷ decimal g ∷ decimal h ∷ [] =
    sym (dotted_parts a b c d (omega arith) (omega arith) (omega arith) (omega arith)) ∙ ap (slice_split is_dot) same ∙ dotted_parts e f g h (omega arith) (omega arith) (omega arith) (omega arith) in (
      decimal_injective a e (omega arith) (omega arith) cc,
      decimal_injective b f (omega arith) (omega arith) cc,
      decimal_injective c g (omega arith) (omega arith) cc,
      decimal_injective d h (omega arith) (omega arith) cc,
    )

of_bytes : (ip : ℕ) → ip ≡ ip / 2 ^ 24 * 2 ^ 24 + ip / 2 ^ 16 % 256 * 2 ^ 16 + ip / 2 ^ 8 % 256 * 2 ^ 8 + ip % 256
of_bytes ip = omega arith

pub same_ip : (m n : ℕ) → m < 2 ^ 32 → n < 2 ^ 32 → ip_text m ≡ ip_text n → m ≡ n
same_ip m n p q e =
    let bytes = same_dotted _ _ _ _ _ _ _ _ (omega arith) (omega arith) (omega arith) (omega arith) (omega arith) (omega arith) (omega arith) (omega arith) e in
    let first = of_bytes m in
    let second = of_bytes n in
    omega arith

same_addr : (a b : Addr) → a.ip ≡ b.ip → a.port ≡ b.port → a ≡ b
same_addr a b p q =
    let with_ip : ℕ → Addr = λ n. record { ip = n; port = a.port } in
    let with_port : ℕ → Addr = λ n. record { ip = b.ip; port = n } in
    ap with_ip p ∙ ap with_port q

pub ip_without : (test : ℕ → Bool) → NoDigit test → test 46 ≡ false → (ip : ℕ) → ip < 2 ^ 32 → Without test (ip_text ip)
ip_without test none no_dot ip small =
    let dot : Without test (codes ".") = (no_dot, tt) in
    let part : (n : ℕ) → n < 2 ^ 64 → Without test (decimal n) = decimal_without test none in
    let first = both_without test (decimal (ip / 2 ^ 24)) (codes ".") (part (ip / 2 ^ 24) (omega arith)) dot in
    let second = both_without test _ (codes ".") (both_without test _ (decimal (ip / 2 ^ 16 % 256)) first (part (ip / 2 ^ 16 % 256) (omega arith))) dot in
    let third = both_without test _ (codes ".") (both_without test _ (decimal (ip / 2 ^ 8 % 256)) second (part (ip / 2 ^ 8 % 256) (omega arith))) dot in
    both_without test _ (decimal (ip % 256)) third (part (ip % 256) (omega arith))

-- an address of 32 bits and a port of 16, which may be 0
pub record SmallAddr (addr : Addr) : Type 0 where
  pub ip : addr.ip < 2 ^ 32
  pub port : addr.port < 2 ^ 16

pub addr_without : (test : ℕ → Bool) → NoDigit test → test 46 ≡ false → test 58 ≡ false → (addr : Addr) → SmallAddr addr → Without test (addr_text addr)
addr_without test none no_dot no_colon addr is =
    let colon : Without test (codes ":") = (no_colon, tt) in
    let port = decimal_without test none addr.port (omega (arith, is.port)) in
    both_without test _ (decimal addr.port) (both_without test (ip_text addr.ip) (codes ":") (ip_without test none no_dot addr.ip is.ip) colon) port

colon_free : NoDigit is_colon
colon_free d low high = ne_eqb d 58 (λ e. omega arith)

addr_parts : (addr : Addr) → SmallAddr addr → slice_split is_colon (addr_text addr) ≡ ip_text addr.ip ∷ decimal addr.port ∷ []
addr_parts addr is =
    let port = slice_split_none is_colon (decimal addr.port) (as_all is_colon (decimal addr.port) (decimal_without is_colon colon_free addr.port (omega (arith, is.port)))) in
    let ip = as_all is_colon (ip_text addr.ip) (ip_without is_colon colon_free refl addr.ip is.ip) in
    let whole : addr_text addr ≡ ip_text addr.ip ++ (58 ∷ decimal addr.port) = append_assoc (ip_text addr.ip) _ _ in
    ap (slice_split is_colon) whole ∙ slice_split_at is_colon (ip_text addr.ip) 58 (decimal addr.port) ip refl ∙ ap (λ l. ip_text addr.ip ∷ l) port

pub same_addr_text : (a b : Addr) → SmallAddr a → SmallAddr b → addr_text a ≡ addr_text b → a ≡ b
same_addr_text a b is is' e =
    let parts : ip_text a.ip ∷ decimal a.port ∷ [] ≡ ip_text b.ip ∷ decimal b.port ∷ [] = sym (addr_parts a is) ∙ ap (slice_split is_colon) e ∙ addr_parts b is' in
    same_addr a b (same_ip a.ip b.ip is.ip is'.ip cc) (decimal_injective a.port b.port (omega (arith, is.port)) (omega (arith, is'.port)) cc)

pub is_small_addr : (addr : Addr) → IsAddr addr → SmallAddr addr
is_small_addr addr is = record { ip = is.ip; port = is.port }
