-- Numbers with their bytes in the other order.
use Rattle.std.proofs.Common.{◌≡◌, ℕ, ◌+◌, ◌*◌, ◌/◌, ◌%◌, ◌^◌, ◌<◌, ap, refl, ◌∙◌, arith}
use Rattle.std.specs.Int.{swap_bytes, w16, w32}

swap4 : (n : ℕ) → swap_bytes w32 n ≡ n % 256 * 256 ^ 3 + n / 256 ^ 1 % 256 * 256 ^ 2 + n / 256 ^ 2 % 256 * 256 ^ 1 + n / 256 ^ 3 % 256
swap4 n = refl

swap2 : (n : ℕ) → swap_bytes w16 n ≡ n % 256 * 256 ^ 1 + n / 256 ^ 1 % 256
swap2 n = refl

back4 : (a b c d : ℕ) → a < 256 → b < 256 → c < 256 → d < 256 → swap_bytes w32 (a * 256 ^ 3 + b * 256 ^ 2 + c * 256 ^ 1 + d) ≡ d * 256 ^ 3 + c * 256 ^ 2 + b * 256 ^ 1 + a
back4 a b c d ha hb hc hd =
    let m : ℕ = a * 256 ^ 3 + b * 256 ^ 2 + c * 256 ^ 1 + d in
    let p : m % 256 ≡ d = omega arith in
    let q : m / 256 ^ 1 % 256 ≡ c = omega arith in
    let r : m / 256 ^ 2 % 256 ≡ b = omega arith in
    let s : m / 256 ^ 3 % 256 ≡ a = omega arith in
    swap4 m ∙ rw (p, q, r, s) refl

pub swap_back4 : (n : ℕ) → n < 2 ^ 32 → swap_bytes w32 (swap_bytes w32 n) ≡ n
swap_back4 n fits =
    let whole : n / 256 ^ 3 % 256 * 256 ^ 3 + n / 256 ^ 2 % 256 * 256 ^ 2 + n / 256 ^ 1 % 256 * 256 ^ 1 + n % 256 ≡ n = omega arith in
    ap (swap_bytes w32) (swap4 n) ∙ back4 (n % 256) (n / 256 ^ 1 % 256) (n / 256 ^ 2 % 256) (n / 256 ^ 3 % 256) (omega arith) (omega arith) (omega arith) (omega arith) ∙ whole

back2 : (a b : ℕ) → a < 256 → b < 256 → swap_bytes w16 (a * 256 ^ 1 + b) ≡ b * 256 ^ 1 + a
back2 a b ha hb =
    let m : ℕ = a * 256 ^ 1 + b in
    let p : m % 256 ≡ b = omega arith in
    let q : m / 256 ^ 1 % 256 ≡ a = omega arith in
    swap2 m ∙ rw (p, q) refl

pub swap_back2 : (n : ℕ) → n < 2 ^ 16 → swap_bytes w16 (swap_bytes w16 n) ≡ n
swap_back2 n fits =
    let whole : n / 256 ^ 1 % 256 * 256 ^ 1 + n % 256 ≡ n = omega arith in
    ap (swap_bytes w16) (swap2 n) ∙ back2 (n % 256) (n / 256 ^ 1 % 256) (omega arith) (omega arith) ∙ whole

sum4 : (a b c d : ℕ) → a < 256 → b < 256 → c < 256 → d < 256 → a * 256 ^ 3 + b * 256 ^ 2 + c * 256 ^ 1 + d < 2 ^ 32
sum4 a b c d ha hb hc hd = omega arith

pub swap_fits4 : (n : ℕ) → swap_bytes w32 n < 2 ^ 32
swap_fits4 n = sum4 (n % 256) (n / 256 ^ 1 % 256) (n / 256 ^ 2 % 256) (n / 256 ^ 3 % 256) (omega arith) (omega arith) (omega arith) (omega arith)

sum2 : (a b : ℕ) → a < 256 → b < 256 → a * 256 ^ 1 + b < 2 ^ 16
sum2 a b ha hb = omega arith

pub swap_fits2 : (n : ℕ) → swap_bytes w16 n < 2 ^ 16
swap_fits2 n = sum2 (n % 256) (n / 256 ^ 1 % 256) (omega arith) (omega arith)
