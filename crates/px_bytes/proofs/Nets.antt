-- Which texts are networks.
use Rattle.std.proofs.Common.{◌≡◌, ℕ, suc, ◌+◌, ◌-◌, ◌^◌, ◌<◌, ◌≤◌, ◌==◌, Bool, true, false, not}
use Rattle.std.proofs.Common.{cond, inl, inr, List, [], ◌∷◌, ◌++◌, length, get_or, take, drop, sym}
use Rattle.std.proofs.Common.{ap, refl, ◌∙◌, arith, append_assoc, length-append}
use Rattle.std.specs.Prelude.{codes}
use Rattle.std.specs.Fmt.{decimal}
use Rattle.std.specs.Net.Text.{dotted_text}
use Rattle.std.specs.Str.Parse.{AllDigits}
use Rattle.std.proofs.lemmas.Bool.{ne_eqb}
use Rattle.std.proofs.lemmas.Bool.Decides.{nat_tests}
use Rattle.std.proofs.lemmas.Fmt.{digits_decimal}
use Rattle.std.proofs.lemmas.List.{take_at, drop_at, take_rest, drop_more, length-take-le}
use Rattle.std.proofs.lemmas.List.{take-append-drop}
use Rattle.std.proofs.lemmas.List.Sums.{passes_at_first}
use Rattle.std.proofs.lemmas.Str.Parse.{digit_from_value}
use Rattle.px_bytes.specs.declared.addr.Net4.{Net4}
use Rattle.px_bytes.specs.Address.{ip_text}
use Rattle.px_bytes.specs.Net.{SpellsNet, IsNet}
use Rattle.px_bytes.specs.SplitAt.{mark_at, SplitsAt}
use Rattle.px_bytes.proofs.Decimals.{own}

-- the mark stands nowhere in the bytes
abbrev Lacks : ℕ → List ℕ → Type 0
Lacks mark [] = Unit {0}
Lacks mark (b ∷ bs) = ((b == mark) ≡ false) × Lacks mark bs

lacks_append : (mark : ℕ) (xs ys : List ℕ) → Lacks mark xs → Lacks mark ys → Lacks mark (xs ++ ys)
lacks_append mark [] ys p q = q
lacks_append mark (x ∷ xs) ys p q = (p.0, lacks_append mark xs ys p.1 q)

digits_lack : (ds : List ℕ) → AllDigits 10 ds → Lacks 47 ds
digits_lack [] h = tt
digits_lack (d ∷ ds) h =
    let range = digit_from_value d h.0 in
    (ne_eqb d 47 (λ e. omega arith), digits_lack ds h.1)

octet_lacks : (n : ℕ) → n < 256 → Lacks 47 (decimal n)
octet_lacks n small = let fits : n < 2 ^ 64 = omega arith in digits_lack (decimal n) (digits_decimal own n fits)

dotted_lacks : (a b c d : ℕ) → a < 256 → b < 256 → c < 256 → d < 256 → Lacks 47 (dotted_text a b c d)
dotted_lacks a b c d ha hb hc hd =
    let dot : Lacks 47 (codes ".") = (refl, tt) in
    let join = lacks_append 47 in
    join _ _ (join _ _ (join _ _ (join _ _ (join _ _ (join _ _ (octet_lacks a ha) dot) (octet_lacks b hb)) dot) (octet_lacks c hc)) dot) (octet_lacks d hd)

-- no slash stands in an address
ip_lacks : (ip : ℕ) → ip < 2 ^ 32 → Lacks 47 (ip_text ip)
ip_lacks ip fits = dotted_lacks _ _ _ _ (omega arith) (omega arith) (omega arith) (omega arith)

mark_step : (b : Bool) (k n : ℕ) → b ≡ false → k ≡ n → cond (not b) (1 + k) 0 ≡ suc n
mark_step b k n e same = rw e (omega arith)

mark_behind : (mark : ℕ) (front back : List ℕ) → Lacks mark front → mark_at mark (front ++ mark ∷ back) ≡ length front
mark_behind mark [] back h = let same : (mark == mark) ≡ true = grind (arith, nat_tests) in ap (λ t. cond (not t) (1 + mark_at mark back) 0) same
mark_behind mark (b ∷ bs) back h = mark_step (b == mark) _ _ h.0 (mark_behind mark bs back h.1)

mark_nowhere : (mark : ℕ) (text : List ℕ) → Lacks mark text → mark_at mark text ≡ length text
mark_nowhere mark [] h = refl
mark_nowhere mark (b ∷ bs) h = mark_step (b == mark) _ _ h.0 (mark_nowhere mark bs h.1)

-- a text is split at its mark in one way
one_split : (mark : ℕ) (text front back before behind : List ℕ) → SplitsAt mark text front back → Lacks mark before → text ≡ before ++ mark ∷ behind → (front ≡ before) × (back ≡ behind)
one_split mark text front back before behind split none e =
    let size : length front ≡ length before = split.first ∙ ap (mark_at mark) e ∙ mark_behind mark before behind none in
    let fronts : front ≡ before = sym (take_at front (mark ∷ back) (length before) size) ∙ ap (take (length before)) (sym split.joined ∙ e) ∙ take_at before (mark ∷ behind) (length before) refl in
    let backs : mark ∷ back ≡ mark ∷ behind = sym (drop_at front (mark ∷ back) (length before) size) ∙ ap (drop (length before)) (sym split.joined ∙ e) ∙ drop_at before (mark ∷ behind) (length before) refl in
    (fronts, cc)

-- what `position` found of the mark splits the text
pub splits_at : (mark : ℕ) (text : List ℕ) (at : ℕ) → at ≡ mark_at mark text → at < length text → SplitsAt mark text (take at text) (take (length text - (at + 1)) (drop (at + 1) text))
splits_at mark text at e inside = record {
  joined =
      let found : (get_or text at 0 == mark) ≡ true = ap (λ k. get_or text k 0 == mark) e ∙ passes_at_first (λ b. b == mark) text 0 (omega arith) in
      let here : get_or text at 0 ≡ mark = grind (arith, nat_tests) in
      let split : take at text ++ drop at text ≡ text = take-append-drop at text in
      let behind : drop at text ≡ mark ∷ drop (at + 1) text = drop_more text at 0 inside ∙ ap (λ b. b ∷ drop (at + 1) text) here in
      rw (take_rest text (at + 1)) (sym split ∙ ap (λ t. take at text ++ t) behind);
  first = length-take-le at text (omega arith) ∙ e;
}

net_joined : (net : Net4) (text : List ℕ) → text ≡ ip_text net.ip ++ codes "/" ++ decimal net.bits → text ≡ ip_text net.ip ++ (47 ∷ decimal net.bits)
net_joined net text e = e ∙ append_assoc (ip_text net.ip) _ _

-- an address alone, and one with its bits
pub address_alone : (text : List ℕ) (ip : ℕ) → text ≡ ip_text ip → SpellsNet text (record { ip = ip; bits = 32 })
address_alone text ip e = inr (e, refl)

pub address_with_bits : (text front back : List ℕ) (ip bits : ℕ) → SplitsAt 47 text front back → front ≡ ip_text ip → back ≡ decimal bits → SpellsNet text (record { ip = ip; bits = bits })
address_with_bits text front back ip bits split e f =
    inl (split.joined ∙ ap (λ t. t ++ 47 ∷ back) e ∙ ap (λ t. ip_text ip ++ 47 ∷ t) f ∙ sym (append_assoc (ip_text ip) (codes "/") (decimal bits)))

no_middle : (xs ys : List ℕ) (y : ℕ) → length xs ≡ length (xs ++ y ∷ ys) → ⊥
no_middle xs ys y e = omega (arith, length-append xs (y ∷ ys))

-- a text without a slash is a network where it is an address
pub not_without_slash : (text : List ℕ) → mark_at 47 text ≡ length text → ((ip : ℕ) → ip < 2 ^ 32 → ¬ (text ≡ ip_text ip)) → (net : Net4) → IsNet net → ¬ SpellsNet text net
not_without_slash text none other net is (inl e) =
    let whole = net_joined net text e in
    no_middle (ip_text net.ip) (decimal net.bits) 47 (sym (mark_behind 47 (ip_text net.ip) (decimal net.bits) (ip_lacks net.ip is.ip)) ∙ ap (mark_at 47) (sym whole) ∙ none ∙ ap length whole)
not_without_slash text none other net is (inr e) = other net.ip is.ip e.0

slash_is_none : (text front back : List ℕ) (ip : ℕ) → ip < 2 ^ 32 → SplitsAt 47 text front back → ¬ (text ≡ ip_text ip)
slash_is_none text front back ip fits split e =
    no_middle front back 47 (split.first ∙ ap (mark_at 47) e ∙ mark_nowhere 47 (ip_text ip) (ip_lacks ip fits) ∙ ap length (sym e ∙ split.joined))

-- a text with a slash isn't one where its front is no address, or its back no number of bits
pub not_without_ip : (text front back : List ℕ) → SplitsAt 47 text front back → ((ip : ℕ) → ip < 2 ^ 32 → ¬ (front ≡ ip_text ip)) → (net : Net4) → IsNet net → ¬ SpellsNet text net
not_without_ip text front back split none net is (inl e) = none net.ip is.ip (one_split 47 text front back _ _ split (ip_lacks net.ip is.ip) (net_joined net text e)).0
not_without_ip text front back split none net is (inr e) = slash_is_none text front back net.ip is.ip split e.0

pub not_without_bits : (text front back : List ℕ) → SplitsAt 47 text front back → ((n : ℕ) → n ≤ 32 → ¬ (back ≡ decimal n)) → (net : Net4) → IsNet net → ¬ SpellsNet text net
not_without_bits text front back split none net is (inl e) = none net.bits is.bits (one_split 47 text front back _ _ split (ip_lacks net.ip is.ip) (net_joined net text e)).1
not_without_bits text front back split none net is (inr e) = slash_is_none text front back net.ip is.ip split e.0
