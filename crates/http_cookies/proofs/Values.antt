-- Which texts are the values of members.
use Rattle.std.proofs.Common.{◌≡◌, ℕ, ◌^◌, ◌<◌, ◌≤◌, ◌==◌, List, ◌++◌, length, sym, ap, ◌∙◌, arith}
use Rattle.std.specs.Prelude.{codes}
use Rattle.std.specs.Fmt.{decimal}
use Rattle.std.specs.Int.{swap_bytes, w16, w32}
use Rattle.std.specs.List.{before_first, after_first}
use Rattle.std.specs.Str.Parse.{AllDigits}
use Rattle.std.proofs.lemmas.Fmt.{digits_decimal, decimal_injective, decimal_nonempty}
use Rattle.std.proofs.lemmas.List.{append_cancel_right}
use Rattle.px_bytes.specs.declared.addr.Addr.{Addr}
use Rattle.px_bytes.proofs.Decimals.{own}
use Rattle.http_cookies.specs.MemberCookie.{IsAddr, bigip_text}
use Rattle.http_cookies.proofs.Marks.{two_parts, joined}
use Rattle.http_cookies.proofs.Swaps.{swap_back2, swap_back4, swap_fits2, swap_fits4}

ip_digits : (n : ℕ) → AllDigits 10 (decimal (swap_bytes w32 n))
ip_digits n =
    let small = swap_fits4 n in
    let fits : swap_bytes w32 n < 2 ^ 64 = omega (arith, small) in
    digits_decimal own (swap_bytes w32 n) fits

-- what is left of a value without its zeros
cut : (text numbers : List ℕ) (member : Addr) → text ≡ numbers ++ codes ".0000" → text ≡ bigip_text member → numbers ≡ (decimal (swap_bytes w32 member.ip) ++ codes ".") ++ decimal (swap_bytes w16 member.port)
cut text numbers member e is = append_cancel_right numbers _ (codes ".0000") (sym e ∙ is)

-- a text is no value where its first part is no address, or its second part no port
pub not_without_ip : (text numbers before : List ℕ) → text ≡ numbers ++ codes ".0000" → before ≡ before_first (λ byte. byte == 46) numbers → ((n : ℕ) → n ≤ 4294967295 → ¬ (before ≡ decimal n)) → (member : Addr) → IsAddr member → ¬ (text ≡ bigip_text member)
not_without_ip text numbers before e b none member fits is =
    let small = swap_fits4 member.ip in
    let low : swap_bytes w32 member.ip ≤ 4294967295 = omega (arith, small) in
    none (swap_bytes w32 member.ip) low (b ∙ ap (before_first (λ byte. byte == 46)) (cut text numbers member e is) ∙ (two_parts (decimal (swap_bytes w32 member.ip)) (decimal (swap_bytes w16 member.port)) (ip_digits member.ip)).0)

pub not_without_port : (text numbers after : List ℕ) → text ≡ numbers ++ codes ".0000" → after ≡ after_first (λ byte. byte == 46) numbers → ((n : ℕ) → n ≤ 65535 → ¬ (after ≡ decimal n)) → (member : Addr) → IsAddr member → ¬ (text ≡ bigip_text member)
not_without_port text numbers after e a none member fits is =
    let small = swap_fits2 member.port in
    let low : swap_bytes w16 member.port ≤ 65535 = omega (arith, small) in
    none (swap_bytes w16 member.port) low (a ∙ ap (after_first (λ byte. byte == 46)) (cut text numbers member e is) ∙ (two_parts (decimal (swap_bytes w32 member.ip)) (decimal (swap_bytes w16 member.port)) (ip_digits member.ip)).1)

-- two numbers that were read are those of the member with their bytes in the other order
pub is_value : (text numbers before after : List ℕ) (ip port : ℕ) → text ≡ numbers ++ codes ".0000" → before ≡ before_first (λ byte. byte == 46) numbers → after ≡ after_first (λ byte. byte == 46) numbers → before ≡ decimal ip → after ≡ decimal port → ip ≤ 4294967295 → port ≤ 65535 → text ≡ bigip_text (record { ip = swap_bytes w32 ip; port = swap_bytes w16 port })
is_value text numbers before after ip port e b a is_ip is_port low_ip low_port =
    let some : 0 < length after = rw is_port (decimal_nonempty port (omega arith)) in
    e ∙ ap (λ t. t ++ codes ".0000") (joined numbers before after b a some)
    ∙ ap (λ t. ((t ++ codes ".") ++ after) ++ codes ".0000") (is_ip ∙ ap decimal (sym (swap_back4 ip (omega arith))))
    ∙ ap (λ t. ((decimal (swap_bytes w32 (swap_bytes w32 ip)) ++ codes ".") ++ t) ++ codes ".0000") (is_port ∙ ap decimal (sym (swap_back2 port (omega arith))))

-- no two members have the same value
pub apart : (a b : Addr) → IsAddr a → IsAddr b → bigip_text a ≡ bigip_text b → a ≡ b
apart a b is_a is_b same =
    let numbers = append_cancel_right ((decimal (swap_bytes w32 a.ip) ++ codes ".") ++ decimal (swap_bytes w16 a.port)) ((decimal (swap_bytes w32 b.ip) ++ codes ".") ++ decimal (swap_bytes w16 b.port)) (codes ".0000") same in
    let left = two_parts (decimal (swap_bytes w32 a.ip)) (decimal (swap_bytes w16 a.port)) (ip_digits a.ip) in
    let right = two_parts (decimal (swap_bytes w32 b.ip)) (decimal (swap_bytes w16 b.port)) (ip_digits b.ip) in
    let a4 = swap_fits4 a.ip in
    let b4 = swap_fits4 b.ip in
    let a2 = swap_fits2 a.port in
    let b2 = swap_fits2 b.port in
    let ips = decimal_injective (swap_bytes w32 a.ip) (swap_bytes w32 b.ip) (omega (arith, a4)) (omega (arith, b4)) (sym left.0 ∙ ap (before_first (λ byte. byte == 46)) numbers ∙ right.0) in
    let ports = decimal_injective (swap_bytes w16 a.port) (swap_bytes w16 b.port) (omega (arith, a2)) (omega (arith, b2)) (sym left.1 ∙ ap (after_first (λ byte. byte == 46)) numbers ∙ right.1) in
    let ip : a.ip ≡ b.ip = sym (swap_back4 a.ip is_a.ip) ∙ ap (swap_bytes w32) ips ∙ swap_back4 b.ip is_b.ip in
    let port : a.port ≡ b.port = sym (swap_back2 a.port is_a.port) ∙ ap (swap_bytes w16) ports ∙ swap_back2 b.port is_b.port in
    ap (λ i. record { ip = i; port = a.port }) ip ∙ ap (λ p. record { ip = b.ip; port = p }) port
