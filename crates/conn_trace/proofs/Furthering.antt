-- What was given stays, whatever comes; choices join; a cut ends what it takes.
use Rattle.std.proofs.Common.{◌≡◌, refl, sym, ap, subst, ◌∙◌, List, [], ◌∷◌, ◌++◌, append-nil, append_assoc, true, false, ◌||◌, not, true≢false, if◌then◌else◌, Option, Some, None}
use Rattle.std.proofs.lemmas.Bool.{and_parts, not-true, or_from, not_from_true}
use Rattle.px_bytes.specs.declared.addr.Side.TheVariants.{Client, Server}
use Rattle.px_bytes.specs.declared.fault.Reply.{Reply}
use Rattle.conn_trace.specs.Item.{Item, Choice, CutBy}
use Rattle.conn_trace.specs.Gates.{may_give}
use Rattle.conn_trace.specs.Setup.{Setup}
use Rattle.conn_trace.specs.State.{Cut, TraceState, WaitKind, ForBytes, ForConnect, ForReply}
use Rattle.conn_trace.specs.State.{ForRelay, ForReuse, ForCut, Next, Does, Waits, Over}
use Rattle.conn_trace.specs.Places.{finish}
use Rattle.conn_trace.specs.Trace.{phase_next, cut_takes, uncut, cut_open, counted}
use Rattle.conn_trace.specs.Trace.{next_item, Unfolds}
use Rattle.conn_trace.specs.Further.{Further, nothing_comes, longer, first_cut, with_cut}
use Rattle.conn_trace.specs.Further.{replies_only, CutMeets, choosing, brings, Same}
use Rattle.conn_trace.specs.Laws.{takes_cut}
use Rattle.conn_trace.proofs.Streams.{nothing_stream, nothing_server, nothing_on_last}
use Rattle.conn_trace.proofs.Longer.{plain_next, phase_same}
use Rattle.conn_trace.proofs.Given.{does_same, trace_is_same, cut_keeps, made, next_same_on_replies, no_cut_behind, only_cut, only_cut_is}
use Rattle.conn_trace.proofs.Unfolding.{unfolds_on}

abbrev without_cut : Further → Further
without_cut f = record f { cut = None }

abbrev cut_as : Option Cut → TraceState → TraceState
cut_as cut l = record l { answers = record l.answers { cut = cut } }

-- a cut behind all else that comes
cut_last : (f : Further) (l : TraceState) (c : Cut) → l.answers.cut ≡ None → f.cut ≡ Some c → with_cut c (longer (without_cut f) l) ≡ longer f l
cut_last f l c none is = ap (λ x. cut_as x (longer f l)) (sym is) ∙ ap (λ x. cut_as (first_cut x f.cut) (longer f l)) (sym none)

no_cut_in : (f : Further) (l : TraceState) → l.answers.cut ≡ None → (longer (without_cut f) l).answers.cut ≡ None
no_cut_in f l none = ap (λ x. first_cut x None) none

further_by : (g : Setup) (l m : TraceState) (f : Further) (items : List Item) (cut : Option Cut) → f.cut ≡ cut → l.answers.cut ≡ None → m.answers.cut ≡ None → CutMeets cut l.sent items
    → Unfolds g l items m → Unfolds g (longer f l) items (longer f m)
further_by g l m f items None is none none' meets u = trace_is_same g l m f items none is u
further_by g l m f items (Some c) is none none' meets u =
    let plain = trace_is_same g l m (without_cut f) items none refl u in
    let both = cut_keeps g (longer (without_cut f) l) (longer (without_cut f) m) c items (no_cut_in f l none) meets plain in
    subst (λ x. Unfolds g (longer f l) items x) (cut_last f m c none' is) (subst (λ x. Unfolds g x items (with_cut c (longer (without_cut f) m))) (cut_last f l c none is) both)

pub further_keeps : (g : Setup) (l m : TraceState) (f : Further) (items : List Item) → l.answers.cut ≡ None → CutMeets f.cut l.sent items → Unfolds g l items m → Unfolds g (longer f l) items (longer f m)
further_keeps g l m f items none meets u = further_by g l m f items f.cut refl none (no_cut_behind g l m items none u) meets u

pub replies_keep : (g : Setup) (l m : TraceState) (replies : List Reply) (items : List Item) → Unfolds g l items m → Unfolds g (longer (replies_only replies) l) items (longer (replies_only replies) m)
replies_keep g l m replies [] is = ap (longer (replies_only replies)) is
replies_keep g l m replies (i ∷ items) (mid, step, rest) =
    (longer (replies_only replies) mid, does_same (replies_only replies) i mid _ _ step (next_same_on_replies g l replies), replies_keep g mid m replies items rest)

-- choices alone change the choices alone
choosing_is : (choices : List Choice) (cut : Option Cut) (l : TraceState) → longer (choosing choices cut) l ≡ made l.client l.server l.answers.replies l.answers.connects (l.answers.choices ++ choices) (first_cut l.answers.cut cut) l
unfolding made
choosing_is choices cut l =
    let a = longer (choosing choices cut) l in
    ap (λ x. made x a.server a.answers.replies a.answers.connects a.answers.choices a.answers.cut l) (nothing_stream nothing_comes l.client refl)
    ∙ (ap (λ x. made l.client x a.answers.replies a.answers.connects a.answers.choices a.answers.cut l) (nothing_server nothing_comes l.answers.connects l.server refl)
    ∙ (ap (λ x. made l.client l.server x a.answers.connects a.answers.choices a.answers.cut l) (append-nil l.answers.replies)
    ∙ ap (λ x. made l.client l.server l.answers.replies x a.answers.choices a.answers.cut l) (append-nil _ ∙ nothing_on_last nothing_comes l.answers.connects refl)))

choices_join_is : (first second : List Choice) (cut : Option Cut) (l : TraceState) → l.answers.cut ≡ None → longer (choosing second cut) (longer (choosing first None) l) ≡ longer (choosing (first ++ second) cut) l
unfolding made
choices_join_is first second cut l none =
    let k = longer (choosing first None) l in
    ap (longer (choosing second cut)) (choosing_is first None l)
    ∙ (choosing_is second cut (made l.client l.server l.answers.replies l.answers.connects (l.answers.choices ++ first) (first_cut l.answers.cut None) l)
    ∙ (ap (λ x. made l.client l.server l.answers.replies l.answers.connects x (first_cut (first_cut l.answers.cut None) cut) l) (append_assoc l.answers.choices first second)
    ∙ (ap (λ x. made l.client l.server l.answers.replies l.answers.connects (l.answers.choices ++ (first ++ second)) (first_cut x cut) l) (ap (λ x. first_cut x None) none ∙ sym none)
    ∙ sym (choosing_is (first ++ second) cut l))))

pub choices_join : (g : Setup) (l m n : TraceState) (first second : List Choice) (cut : Option Cut) (items more : List Item) → l.answers.cut ≡ None → CutMeets cut l.sent items
    → Unfolds g (longer (choosing first None) l) items m → Unfolds g (longer (choosing second cut) m) more n → Unfolds g (longer (choosing (first ++ second) cut) l) (items ++ more) n
choices_join g l m n first second cut items more none meets one two =
    let k = longer (choosing first None) l in
    let front = further_keeps g k m (choosing second cut) items (ap (λ x. first_cut x None) none) meets one in
    subst (λ x. Unfolds g x (items ++ more) n) (choices_join_is first second cut l none) (unfolds_on g (longer (choosing second cut) k) (longer (choosing second cut) m) n items more front two)

-- a cut ends what it takes
pub takes_nothing : (c : Cut) (k : WaitKind) → brings (only_cut c) k ≡ false
takes_nothing c (ForBytes Client) = refl
takes_nothing c (ForBytes Server) = refl
takes_nothing c ForConnect = refl
takes_nothing c (ForReply call) = refl
takes_nothing c (ForRelay r s) = refl
takes_nothing c ForReuse = refl
takes_nothing c ForCut = refl

uncut_is : (c : Cut) (l : TraceState) → l.answers.cut ≡ None → uncut (with_cut c l) ≡ l
uncut_is c l none = ap (λ x. cut_as x l) (sym none)

cut_taken : (g : Setup) (l : TraceState) (c : Cut) (o o' : Next) → l.answers.cut ≡ None → Same (only_cut c) o o' → takes_cut g c l.sent (counted l.sent o) ≡ true
    → counted l.sent (cut_open g c (with_cut c l) o') ≡ finish g (CutBy c.reason) l
cut_taken g l c (Does i m) o' none is takes =
    let parts = and_parts (not (may_give i l.sent c.took)) (cut_takes g.http c.reason None) takes in
    let shut = not-true (may_give i l.sent c.took) parts.0 in
    let test : (may_give i l.sent c.took || not (cut_takes g.http c.reason None)) ≡ false = or_from _ _ shut (not_from_true _ parts.1) in
    ap (λ x. counted l.sent (cut_open g c (with_cut c l) x)) is
    ∙ (ap (λ b. counted l.sent (if b then Does i (longer (only_cut c) m) else finish g (CutBy c.reason) (uncut (with_cut c l)))) test
    ∙ ap (λ x. counted l.sent (finish g (CutBy c.reason) x)) (uncut_is c l none))
cut_taken g l c (Waits k) o' none is takes =
    ap (λ x. counted l.sent (cut_open g c (with_cut c l) x)) (is (takes_nothing c k))
    ∙ (ap (λ b. counted l.sent (if b then finish g (CutBy c.reason) (uncut (with_cut c l)) else Waits k)) takes
    ∙ ap (λ x. counted l.sent (finish g (CutBy c.reason) x)) (uncut_is c l none))
cut_taken g l c Over o' none is takes = absurd (true≢false (sym takes))

pub cut_ends : (g : Setup) (l : TraceState) (c : Cut) → l.answers.cut ≡ None → l.finished ≡ false → takes_cut g c l.sent (next_item g l) ≡ true → next_item g (with_cut c l) ≡ finish g (CutBy c.reason) l
unfolding next_item
cut_ends g l c none going takes =
    let o = phase_next g l.phase l in
    let o' = phase_next g l.phase (with_cut c l) in
    let same : Same (only_cut c) o o' = subst (λ x. Same (only_cut c) o (phase_next g l.phase x)) (only_cut_is c l none) (phase_same (only_cut c) g l.phase l) in
    let plain : takes_cut g c l.sent (counted l.sent o) ≡ true = ap (takes_cut g c l.sent) (sym (plain_next g l none)) ∙ takes in
    ap (λ b. counted l.sent (if b then o' else cut_open g c (with_cut c l) o')) going ∙ cut_taken g l c o o' none same plain
