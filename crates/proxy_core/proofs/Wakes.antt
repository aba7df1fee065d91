-- One of those that sleep after another comes to the queue, or goes behind the others: all of them are gone through.
use Rattle.std.proofs.Common.{◌≡◌, refl, sym, ap, subst, ◌∙◌, ℕ, suc, ◌+◌, ◌-◌, ◌≤◌, ◌<◌, arith, List, [], ◌∷◌, ◌++◌, append-nil, append_assoc, length, length-append, map, Bool, true, false, not, nat_lt, if◌then◌else◌}
use Rattle.std.specs.List.{filter}
use Rattle.std.proofs.lemmas.Bool.Decides.{nat_tests}
use Rattle.record_model.specs.Clock.{is_due}
use Rattle.proxy_core.specs.CallQueue.{CallQueue}
use Rattle.proxy_core.specs.Calls.{all_passed, as_asked, passed, passes, pushed, sleeping_on, woken_calls}
use Rattle.proxy_core.specs.declared.call.Asked.{Asked}
use Rattle.proxy_core.specs.declared.call.Asleep.{Asleep}

-- these first ones were gone through
pub record WentThrough (moment : ℕ) (some others : List Asleep) (before after : CallQueue) : Type 0 where
  pub asleep : after.asleep ≡ others ++ sleeping_on moment some
  pub room : after.room ≡ before.room
  pub items : length before.items + length some ≤ before.room → after.items ≡ before.items ++ woken_calls moment some

-- what is known of those behind the first, from wherever they stand
abbrev GoneOn : (moment : ℕ) → List Asleep → Type 0
GoneOn moment some = (others : List Asleep) (q : CallQueue) → q.asleep ≡ some ++ others → WentThrough moment some others q (all_passed moment (length some) q)

-- the first wakes, or sleeps on
first_wakes : (moment : ℕ) (a : Asleep) (some others : List Asleep) (q : CallQueue) → GoneOn moment some → is_due moment a.due ≡ true
    → WentThrough moment (a ∷ some) others q (all_passed moment (length some) (pushed (as_asked a) (record q { asleep = some ++ others })))
first_wakes moment a some others q on due = by_room (nat_lt (length q.items) q.room) refl
  where
    left : Bool → List Asleep
    left b = if not b then a ∷ sleeping_on moment some else sleeping_on moment some

    woken : Bool → List Asked
    woken b = map as_asked (if b then a ∷ filter (λ x. is_due moment x.due) some else filter (λ x. is_due moment x.due) some)

    by_room : (b : Bool) → nat_lt (length q.items) q.room ≡ b
        → WentThrough moment (a ∷ some) others q (all_passed moment (length some) (if b then record q { asleep = some ++ others; items = q.items ++ as_asked a ∷ [] } else record q { asleep = some ++ others }))
    by_room true there =
        let k = on others (record q { asleep = some ++ others; items = q.items ++ as_asked a ∷ [] }) refl in
        let n : length (q.items ++ as_asked a ∷ []) ≡ length q.items + 1 = length-append q.items (as_asked a ∷ []) in
        record {
          asleep = k.asleep ∙ ap (λ b. others ++ left b) (sym due);
          room = k.room;
          items = λ few. k.items (omega (arith, few, n)) ∙ append_assoc q.items (as_asked a ∷ []) (woken_calls moment some) ∙ ap (λ b. q.items ++ woken b) (sym due);
        }
    by_room false none =
        let k = on others (record q { asleep = some ++ others }) refl in
        let full : q.room ≤ length q.items = grind (arith, nat_tests, none) in
        record {
          asleep = k.asleep ∙ ap (λ b. others ++ left b) (sym due);
          room = k.room;
          items = λ few. absurd (omega (arith, few, full));
        }

first_stays : (moment : ℕ) (a : Asleep) (some others : List Asleep) (q : CallQueue) → GoneOn moment some → is_due moment a.due ≡ false
    → WentThrough moment (a ∷ some) others q (all_passed moment (length some) (record q { asleep = (some ++ others) ++ a ∷ [] }))
first_stays moment a some others q on due =
    let k = on (others ++ a ∷ []) (record q { asleep = (some ++ others) ++ a ∷ [] }) (append_assoc some others (a ∷ [])) in
    let left : Bool → List Asleep = λ b. if not b then a ∷ sleeping_on moment some else sleeping_on moment some in
    let woken : Bool → List Asked = λ b. map as_asked (if b then a ∷ filter (λ x. is_due moment x.due) some else filter (λ x. is_due moment x.due) some) in
    record {
      asleep = k.asleep ∙ append_assoc others (a ∷ []) (sleeping_on moment some) ∙ ap (λ b. others ++ left b) (sym due);
      room = k.room;
      items = λ few. k.items (omega (arith, few)) ∙ ap (λ b. q.items ++ woken b) (sym due);
    }

first_goes : (moment : ℕ) (a : Asleep) (some others : List Asleep) (q : CallQueue) → GoneOn moment some → (b : Bool) → is_due moment a.due ≡ b
    → WentThrough moment (a ∷ some) others q (all_passed moment (length some) (if b then pushed (as_asked a) (record q { asleep = some ++ others }) else record q { asleep = (some ++ others) ++ a ∷ [] }))
first_goes moment a some others q on true due = first_wakes moment a some others q on due
first_goes moment a some others q on false due = first_stays moment a some others q on due

went_through : (moment : ℕ) (some : List Asleep) → GoneOn moment some
went_through moment [] others q e = record { asleep = e ∙ sym (append-nil others); room = refl; items = λ few. sym (append-nil q.items) }
went_through moment (a ∷ some) others q e =
    let P : CallQueue → Type 0 = λ r. WentThrough moment (a ∷ some) others q (all_passed moment (length some) r) in
    subst P (sym (ap (λ l. passed moment l q) e)) (first_goes moment a some others q (went_through moment some) (is_due moment a.due) refl)

-- all of them
pub all_gone_through : (moment : ℕ) (q : CallQueue) → WentThrough moment q.asleep [] q (all_passed moment (length q.asleep) q)
all_gone_through moment q = went_through moment q.asleep [] q (sym (append-nil q.asleep))

-- ---- the loop

pub one_passed : (moment n at : ℕ) (first now next : CallQueue) → at < n → all_passed moment n first ≡ all_passed moment (n - at) now → next ≡ passes moment now → all_passed moment n first ≡ all_passed moment (n - (at + 1)) next
one_passed moment n at first now next below e is =
    let left : n - at ≡ suc (n - (at + 1)) = omega (arith, below) in
    e ∙ ap (λ k. all_passed moment k now) left ∙ ap (all_passed moment (n - (at + 1))) (sym is)

pub all_were_passed : (moment n at : ℕ) (first now : CallQueue) → n ≤ at → all_passed moment n first ≡ all_passed moment (n - at) now → now ≡ all_passed moment n first
all_were_passed moment n at first now over e = let none : n - at ≡ 0 = omega (arith, over) in sym (e ∙ ap (λ k. all_passed moment k now) none)

-- behind the loop
pub woke : (moment at : ℕ) (first now : CallQueue) → length first.asleep ≤ at → all_passed moment (length first.asleep) first ≡ all_passed moment (length first.asleep - at) now → WentThrough moment first.asleep [] first now
woke moment at first now over e = subst (λ q. WentThrough moment first.asleep [] first q) (sym (all_were_passed moment (length first.asleep) at first now over e)) (all_gone_through moment first)
