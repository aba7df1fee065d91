-- A cut that isn't taken waits; at a rest it is taken.
use Rattle.std.proofs.Common.{◌≡◌, ◌⊎◌, inl, inr, refl, sym, ap, subst, ◌∙◌, Bool, true, false, ◌||◌, ◌&&◌, not, true≢false, if◌then◌else◌, Some, None}
use Rattle.core_events.specs.declared.note.CutReason.{CutReason}
use Rattle.conn_trace.specs.Item.{CutBy}
use Rattle.conn_trace.specs.Gates.{Counts, TakenCounts, may_give, sent_after}
use Rattle.conn_trace.specs.Setup.{Setup}
use Rattle.conn_trace.specs.State.{Cut, TraceState, WaitKind, ForBytes, ForConnect, ForReply, ForRelay, ForReuse, ForCut, Next, Does, Waits, Over}
use Rattle.conn_trace.specs.Places.{finish}
use Rattle.conn_trace.specs.Trace.{phase_next, cut_takes, uncut, cut_open, cut_next, counted, next_item, rests, GivesNoMore}
use Rattle.conn_trace.specs.Further.{longer, with_cut, Same}
use Rattle.px_bytes.specs.declared.addr.Side.TheVariants.{Client, Server}
use Rattle.core_events.specs.declared.note.CutReason.TheVariants.{ServerReset}
use Rattle.conn_trace.specs.Laws.{ends_rests, takes_cut, cut_is_taken, cut_kept}
use Rattle.conn_trace.proofs.Fair.{FairNext, fair_of, phase_fair}
use Rattle.conn_trace.proofs.Longer.{plain_next, phase_same}
use Rattle.conn_trace.proofs.Given.{only_cut, only_cut_is}
use Rattle.conn_trace.proofs.Furthering.{takes_nothing}

open_by : (may takes : Bool) → (not may && takes) ≡ false → (may || not takes) ≡ true
open_by true takes is = refl
open_by false false is = refl
open_by false true is = absurd (true≢false is)

-- what the phase gives with the cut recorded
phase_with : (g : Setup) (l : TraceState) (c : Cut) (o : Next) → l.answers.cut ≡ None → phase_next g l.phase l ≡ o → Same (only_cut c) o (phase_next g l.phase (with_cut c l))
phase_with g l c o none is =
    let same : Same (only_cut c) o (phase_next g l.phase (longer (only_cut c) l)) = subst (λ x. Same (only_cut c) x (phase_next g l.phase (longer (only_cut c) l))) is (phase_same (only_cut c) g l.phase l) in
    subst (λ x. Same (only_cut c) o (phase_next g l.phase x)) (only_cut_is c l none) same

waits_by : (g : Setup) (l : TraceState) (c : Cut) (o : Next) → l.answers.cut ≡ None → phase_next g l.phase l ≡ o → (not l.finished && takes_cut g c l.sent (counted l.sent o)) ≡ false
    → counted l.sent (cut_next g (Some c) (with_cut c l) (phase_next g l.phase (with_cut c l))) ≡ cut_kept c (counted l.sent o)
waits_by g l c (Does i m) none is test =
    let kept : m.answers.cut ≡ None = (fair_of l.answers.cut l.sent.number l.client i m (subst (FairNext l.answers.cut l.sent.number l.client) is (phase_fair g l.phase l))).cut ∙ none in
    let now : phase_next g l.phase (with_cut c l) ≡ Does i (with_cut c m) = phase_with g l c (Does i m) none is ∙ ap (Does i) (only_cut_is c m kept) in
    ap (λ x. counted l.sent (cut_next g (Some c) (with_cut c l) x)) now ∙ by_end l.finished test where
      by_end : (b : Bool) → (not b && takes_cut g c l.sent (counted l.sent (Does i m))) ≡ false
          → counted l.sent (if b then Does i (with_cut c m) else cut_open g c (with_cut c l) (Does i (with_cut c m))) ≡ Does i (with_cut c (record m { sent = sent_after i l.sent }))
      by_end true test = refl
      by_end false test =
          ap (λ x. counted l.sent (if x then Does i (with_cut c m) else finish g (CutBy c.reason) (uncut (with_cut c l)))) (open_by (may_give i l.sent c.took) (cut_takes g.http c.reason None) test)
waits_by g l c (Waits k) none is test =
    ap (λ x. counted l.sent (cut_next g (Some c) (with_cut c l) x)) (phase_with g l c (Waits k) none is (takes_nothing c k)) ∙ by_end l.finished test where
      by_end : (b : Bool) → (not b && cut_takes g.http c.reason (Some k)) ≡ false → counted l.sent (if b then Waits k else cut_open g c (with_cut c l) (Waits k)) ≡ Waits k
      by_end true test = refl
      by_end false test = ap (λ x. counted l.sent (if x then finish g (CutBy c.reason) (uncut (with_cut c l)) else Waits k)) test
waits_by g l c Over none is test = ap (λ x. counted l.sent (cut_next g (Some c) (with_cut c l) x)) (phase_with g l c Over none is) ∙ by_end l.finished where
  by_end : (b : Bool) → counted l.sent (if b then Over else Over) ≡ Over
  by_end true = refl
  by_end false = refl

pub cut_waits : (g : Setup) (l : TraceState) (c : Cut) → l.answers.cut ≡ None → cut_is_taken g c l ≡ false → next_item g (with_cut c l) ≡ cut_kept c (next_item g l)
unfolding next_item
cut_waits g l c none test =
    let plain = plain_next g l none in
    waits_by g l c (phase_next g l.phase l) none refl (ap (λ x. not l.finished && takes_cut g c l.sent x) (sym plain) ∙ test) ∙ ap (cut_kept c) (sym plain)

takes_at : (reason : CutReason) (k : WaitKind) (sent : Counts) (took : TakenCounts) → rests false k sent took ≡ true → cut_takes false reason (Some k) ≡ true
takes_at reason (ForBytes side) sent took is = refl
takes_at reason ForConnect sent took is = refl
takes_at reason (ForReply call) sent took is = absurd (true≢false (sym is))
takes_at reason (ForRelay r s) sent took is = refl
takes_at reason ForReuse sent took is = absurd (true≢false (sym is))
takes_at reason ForCut sent took is = refl

pub rest_is_cut : (g : Setup) (c : Cut) (sent : Counts) (o : Next) → g.http ≡ false → GivesNoMore false sent c.took o → (takes_cut g c sent o ≡ true) ⊎ (o ≡ Over)
rest_is_cut g c sent (Does i m) plain shut = inl (ap (λ b. not b && cut_takes g.http c.reason None) shut ∙ ap (λ h. cut_takes h c.reason None) plain)
rest_is_cut g c sent (Waits k) plain rest = inl (ap (λ h. cut_takes h c.reason (Some k)) plain ∙ takes_at c.reason k sent c.took rest)
rest_is_cut g c sent Over plain rest = inr refl

takes_also : (http : Bool) (reason : CutReason) (k : WaitKind) (sent : Counts) (took : TakenCounts) → ends_rests http reason ≡ true → rests false k sent took ≡ true → cut_takes http reason (Some k) ≡ true
takes_also http reason (ForReply call) sent took ends is = absurd (true≢false (sym is))
takes_also http reason ForReuse sent took ends is = absurd (true≢false (sym is))
takes_also true ServerReset k sent took ends is = absurd (true≢false (sym ends))
takes_also http reason (ForBytes Client) sent took ends is = refl
takes_also http reason (ForBytes Server) sent took ends is = refl
takes_also http reason ForConnect sent took ends is = refl
takes_also http reason (ForRelay r s) sent took ends is = refl
takes_also http reason ForCut sent took ends is = refl

gate_also : (http : Bool) (reason : CutReason) → ends_rests http reason ≡ true → cut_takes http reason None ≡ true
gate_also true ServerReset ends = absurd (true≢false (sym ends))
gate_also http reason ends = refl

pub rest_is_cut_also : (g : Setup) (c : Cut) (sent : Counts) (o : Next) → ends_rests g.http c.reason ≡ true → GivesNoMore false sent c.took o → (takes_cut g c sent o ≡ true) ⊎ (o ≡ Over)
rest_is_cut_also g c sent (Does i m) ends shut = inl (ap (λ b. not b && cut_takes g.http c.reason None) shut ∙ gate_also g.http c.reason ends)
rest_is_cut_also g c sent (Waits k) ends rest = inl (takes_also g.http c.reason k sent c.took ends rest)
rest_is_cut_also g c sent Over ends rest = inr refl

pub server_reset_ends : (g : Setup) (took : TakenCounts) (sent : Counts) → g.http ≡ true → takes_cut g (record { reason = ServerReset; took = took }) sent (Waits (ForBytes Server)) ≡ true
server_reset_ends g took sent is = ap (λ h. cut_takes h ServerReset (Some (ForBytes Server))) is
