-- A reply is the next of each state that the connection may stand for.
use Rattle.std.proofs.Common.{◌≡◌, refl, sym, ap, subst, ◌∙◌, ℕ, ◌+◌, ◌≤◌, List, [], ◌∷◌, ◌++◌, append_assoc, append-nil, length, length-append, drop, Bool, true, false, Option, Some, None, ◌<◌, ◌^◌, if◌then◌else◌, arith}
use Rattle.std.specs.Prelude.{IfNone, IfSome}
use Rattle.px_bytes.specs.Address.{IsAddr, addr_text}
use Rattle.px_bytes.specs.declared.addr.Addr.{Addr}
use Rattle.px_bytes.specs.declared.fault.Reply.{Reply}
use Rattle.tcl_trees.specs.Procedures.{Procedure}
use Rattle.tcl_trees.specs.Tree.{Tree}
use Rattle.tcl_vars.specs.Scopes.{Scopes}
use Rattle.event_order.specs.declared.event.EventName.{EventName}
use Rattle.irule_net.specs.State.{collected}
use Rattle.rule_model.specs.Control.{is_caught}
use Rattle.rule_model.specs.Evaluator.{evaluate}
use Rattle.rule_model.specs.Outcome.{Act, Called, reply_code}
use Rattle.rule_model.specs.Setting as given
use Rattle.rule_model.specs.declared.code.Code.{Code}
use Rattle.conn_trace.specs.Further.{longer, first_cut, nothing_comes, replies_only}
use Rattle.conn_trace.specs.Host.{body_setting}
use Rattle.conn_trace.specs.Setup.{Handler, Setup}
use Rattle.conn_trace.specs.State.{Running, TraceState}
use Rattle.frames.specs.Frames.{comes_to, path_of}
use Rattle.frames.specs.Owed.{Heavy, mode_owed, owed, owed_by}
use Rattle.frames.specs.declared.frame.Frame.{Frame}
use Rattle.frames.specs.declared.frame.Mode.{Mode}
use Rattle.frames.specs.declared.frame.Mode.TheVariants as mode
use Rattle.frames.specs.declared.frame.Standing.{Standing}
use Rattle.conn_trace.specs.State as phase
use Rattle.conn_trace.specs.Selected.{addr_of}
use Rattle.conn_trace.proofs.Spelling.{spelled, written_is_selected}
use Rattle.conn_trace.proofs.Streams.{nothing_stream, nothing_server, nothing_on_last}
use Rattle.conn.specs.Bodies.{Heard}
use Rattle.conn.specs.Calls.{Replies}
use Rattle.conn.specs.Events.{event_of}
use Rattle.conn.specs.Holds.{Around, BodyGoesOn, Holds, HoldsEnds, ReplyCame, RunsFirst, Stands, call_of}
use Rattle.conn.specs.Hosts.{seen_host}
use Rattle.conn.specs.Modes.{is_asked}
use Rattle.conn.specs.Paid.{FirstPaid, Paid, PaidAt}
use Rattle.conn.specs.Stages.{InEvent, fits, has_finished, selects}
use Rattle.conn.specs.declared.ends.Ends.{Ends}
use Rattle.conn.specs.declared.connection.Conn.{Conn}
use Rattle.conn.specs.declared.events.At.{At}
use Rattle.conn.specs.declared.stage.Stage.{Stage}
use Rattle.conn.specs.declared.stage.Stage.TheVariants as stage
use Rattle.conn.proofs.Giving.{ends_kept}
use Rattle.conn.proofs.Places.{same_told}

pub asked_mode : (m : Mode) → is_asked m ≡ true → (call : List (List ℕ)) × (m ≡ mode.Asked call)
asked_mode mode.Begin e = cc
asked_mode (mode.Back code) e = cc
asked_mode (mode.Asked call) e = (call, refl)
asked_mode mode.Over e = cc

-- a call goes on with its reply
pub goes_on : {H : Type 0} (g : given.Setting H) (tree : Tree) (m : Standing) (v : Scopes) (h : H) (call : List (List ℕ)) (reply : Reply) (more : List Reply) (cost : ℕ) (acts : List Act) → m.mode ≡ mode.Asked call
    → comes_to g tree m v h (reply ∷ more) cost acts ≡ comes_to g tree (record m { mode = mode.Back (reply_code reply) }) v h more cost (acts ++ Called (path_of m.frames.items) call ∷ [])
goes_on g tree m v h call reply more cost acts e = rw e refl

body_hears : (g : Setup) (e : EventName) (b : Handler) (bs : List Handler) (l : TraceState) (old new : Conn) (reply : Reply) → BodyGoesOn g e b bs 1 l old → is_asked old.body.machine.at.mode ≡ true → Heard reply old.body new.body → new.vars ≡ old.vars → new.host ≡ old.host
    → BodyGoesOn g e b bs 0 (longer (replies_only (reply ∷ [])) l) new
body_hears g e b bs l old new reply k asked heard vars host =
    let m = old.body.machine.at in
    let S = body_setting g b.procedures in
    let is = asked_mode m.mode asked in
    let acts = k.acts ++ Called (path_of m.frames.items) is.0 ∷ [] in
    let count : length k.acts + 1 ≡ length acts + 0 = omega (arith, length-append k.acts (Called (path_of m.frames.items) is.0 ∷ [])) in
    record {
      acts = acts;
      cost = k.cost;
      phase = k.phase ∙ ap (λ n. phase.InEvent e (Running b bs n)) count;
      kept = λ side free. ap (λ x. collected side x.net) host ∙ k.kept side free;
      same = λ more.
          ap (λ rs. evaluate S b.body l.vars l.host rs g.budget) (append_assoc l.answers.replies (reply ∷ []) more)
          ∙ k.same (reply ∷ more)
          ∙ goes_on S b.body m old.vars (seen_host old.host) is.0 reply more k.cost k.acts is.1
          ∙ ap (λ x. comes_to S b.body x old.vars (seen_host old.host) more k.cost acts) (sym heard.machine)
          ∙ ap (λ v. comes_to S b.body new.body.machine.at v (seen_host old.host) more k.cost acts) (sym vars)
          ∙ ap (λ h. comes_to S b.body new.body.machine.at new.vars (seen_host h) more k.cost acts) (sym host);
    }

first_hears : (g : Setup) (e : EventName) (hs : List Handler) (l : TraceState) (old new : Conn) (reply : Reply) → RunsFirst g e hs 1 l old → is_asked old.body.machine.at.mode ≡ true → Heard reply old.body new.body → new.vars ≡ old.vars → new.host ≡ old.host
    → RunsFirst g e hs 0 (longer (replies_only (reply ∷ [])) l) new
first_hears g e [] l old new reply k asked heard vars host = k
first_hears g e (b ∷ bs) l old new reply k asked heard vars host = body_hears g e b bs l old new reply k asked heard vars host

-- a reply owes no more than the call that waited for it
back_owes : (code : Code) → mode_owed (mode.Back code) ≤ 2
back_owes code = by_test (is_caught code)
  where
    by_test : (b : Bool) → (if b then 2 else 0) ≤ 2
    by_test true = omega arith
    by_test false = omega arith

reply_owes : (fs : List Frame) (call : List (List ℕ)) (code : Code) → owed_by fs (mode.Back code) ≤ owed_by fs (mode.Asked call)
reply_owes [] call code = omega arith
reply_owes (f ∷ fs) call code = let k = back_owes code in omega (arith, k)

light : (ps : List Procedure) (t : Tree) (fs : List Frame) (code : Code) → Heavy ps t fs (mode.Back code)
light ps t [] code = tt
light ps t (f ∷ fs) code = tt

pub first_replied : (g : Setup) (hs : List Handler) (l : TraceState) (old new : Conn) (reply : Reply) (t p : ℕ) → is_asked old.body.machine.at.mode ≡ true → Heard reply old.body new.body → new.vars ≡ old.vars → new.host ≡ old.host
    → FirstPaid g hs l old t p → FirstPaid g hs (longer (replies_only (reply ∷ [])) l) new t p
first_replied g [] l old new reply t p asked heard vars host k = k
first_replied g (b ∷ bs) l old new reply t p asked heard vars host k =
    let m = old.body.machine.at in
    let S = body_setting g b.procedures in
    let is = asked_mode m.mode asked in
    let acts = k.acts ++ Called (path_of m.frames.items) is.0 ∷ [] in
    record {
      acts = acts;
      cost = k.cost;
      same = λ more.
          ap (λ rs. evaluate S b.body l.vars l.host rs g.budget) (append_assoc l.answers.replies (reply ∷ []) more)
          ∙ k.same (reply ∷ more)
          ∙ goes_on S b.body m old.vars (seen_host old.host) is.0 reply more k.cost k.acts is.1
          ∙ ap (λ x. comes_to S b.body x old.vars (seen_host old.host) more k.cost acts) (sym heard.machine)
          ∙ ap (λ v. comes_to S b.body new.body.machine.at v (seen_host old.host) more k.cost acts) (sym vars)
          ∙ ap (λ h. comes_to S b.body new.body.machine.at new.vars (seen_host h) more k.cost acts) (sym host);
      heavy = subst (λ x. Heavy b.procedures b.body x.frames.items x.mode) (sym heard.machine) (light b.procedures b.body m.frames.items (reply_code reply));
      owes =
          (let now : owed new.body.machine.at ≡ owed_by m.frames.items (mode.Back (reply_code reply)) = ap owed heard.machine in
          let was : owed m ≡ owed_by m.frames.items (mode.Asked is.0) = ap (λ md. owed_by m.frames.items md) is.1 in
          let less = reply_owes m.frames.items is.0 (reply_code reply) in
          let o = k.owes in omega (arith, o, now, was, less));
    }

-- the ends stay as they are
pub same_ends : (a : Around) (l : TraceState) (e f : Ends) (reply : Reply) → HoldsEnds a l e → f ≡ e → HoldsEnds a (longer (replies_only (reply ∷ [])) l) f
same_ends a l e f reply h same =
    ends_kept a l (longer (replies_only (reply ∷ [])) l) e f h (nothing_stream nothing_comes l.client refl) (nothing_server nothing_comes l.answers.connects l.server refl) (append-nil _ ∙ nothing_on_last nothing_comes l.answers.connects refl) refl same

-- the reply comes, whatever it makes of where the connection stands
holds_longer : (g : Setup) (a : Around) (l : TraceState) (old new : Conn) (reply : Reply) → Holds g a l old → Stands g new.stage (longer (replies_only (reply ∷ [])) l) new → has_finished new.stage ≡ has_finished old.stage → fits new.stage old.ends.link ≡ fits old.stage old.ends.link → InEvent new.stage old.host.event
    → new.host ≡ old.host → new.ends ≡ old.ends → Holds g a (longer (replies_only (reply ∷ [])) l) new
holds_longer g a l old new reply h stands finished fit event host ends =
    let f = replies_only (reply ∷ []) in
    record {
      stage = stands;
      finished = h.finished ∙ sym finished;
      fits = ap (λ e. fits new.stage e.link) ends ∙ fit ∙ h.fits;
      event = subst (λ x. InEvent new.stage x.event) (sym host) event;
      told = same_told g old new host ends h.told;
      ends = same_ends a l old.ends new.ends reply h.ends ends;
      no_choice = append-nil l.answers.choices ∙ h.no_choice;
      no_cut = ap (λ c. first_cut c f.cut) h.no_cut;
    }

pub replies : (reply : Reply) (old new : Conn) (at : At) (n : ℕ) → old.stage ≡ stage.Asking at n → new.stage ≡ stage.Running at n → (old.body.asks ≡ true → Heard reply old.body new.body) → new.vars ≡ old.vars → new.host ≡ old.host → new.ends ≡ old.ends → Replies reply old new
replies reply old new at n was is hears vars host ends g a l h = (now, pays)
  where
    now : Holds g a (longer (replies_only (reply ∷ [])) l) new
    now =
        let f = replies_only (reply ∷ []) in
        let e = event_of at in
        let P : Stage → Type 0 = λ st. Stands g st l old in
        let Q : Stage → Type 0 = λ st. Stands g st (longer f l) new in
        let here = subst P was h.stage in
        let heard = hears here.1 in
        holds_longer g a l old new reply h (subst Q (sym is) (first_hears g e (drop n (g.handlers e)) l old new reply here.0 (old.body.asking here.1) heard vars host, heard.runs))
        (ap has_finished is ∙ sym (ap has_finished was)) (ap (λ st. fits st old.ends.link) is ∙ sym (ap (λ st. fits st old.ends.link) was)) (subst (λ st. InEvent st old.host.event) (sym is) (subst (λ st. InEvent st old.host.event) was h.event)) host ends

    pays : (t p : ℕ) → Paid g l old t p → Paid g (longer (replies_only (reply ∷ [])) l) new t p
    pays t p k =
        let e = event_of at in
        let here = subst (λ st. Stands g st l old) was h.stage in
        let owed_so = subst (λ st. PaidAt st g l old t p) was k in
        subst (λ st. PaidAt st g (longer (replies_only (reply ∷ [])) l) new t p) (sym is) (first_replied g (drop n (g.handlers e)) l old new reply t p (old.body.asking here.1) (hears here.1) vars host owed_so)

-- the reply that selects a server is kept as the address that it spells
pub replies_selects : (reply : Reply) (old new : Conn) → old.stage ≡ stage.Selecting → new.stage ≡ stage.Chosen (selects reply) → new.vars ≡ old.vars → new.host ≡ old.host → new.ends ≡ old.ends → Replies reply old new
replies_selects reply old new was is vars host ends g a l h = (now, λ t p k. subst (λ st. PaidAt st g (longer (replies_only (reply ∷ [])) l) new t p) (sym is) (subst (λ st. PaidAt st g l old t p) was k))
  where
    now : Holds g a (longer (replies_only (reply ∷ [])) l) new
    now =
        let f = replies_only (reply ∷ []) in
        let P : Stage → Type 0 = λ st. Stands g st l old in
        let Q : Stage → Type 0 = λ st. Stands g st (longer f l) new in
        let here = subst P was h.stage in
        let came : ReplyCame (longer f l) new (selects reply) = record {
          vars = here.1.vars ∙ sym vars;
          host = here.1.host ∙ sym (ap seen_host host);
          reply = reply;
          replies = ap (λ rs. rs ++ reply ∷ []) here.1.replies;
          selects = refl;
        } in
        holds_longer g a l old new reply h (subst Q (sym is) (here.0 ∙ sym (ap (λ x. phase.Selecting (call_of g x.net)) host), came))
        (ap has_finished is ∙ sym (ap has_finished was)) (ap (λ st. fits st old.ends.link) is ∙ sym (ap (λ st. fits st old.ends.link) was)) (subst (λ st. InEvent st old.host.event) (sym is) tt) host ends

-- the code reads the address as its definition does
pub address_is : (text : List ℕ) (o : Option Addr) → IfSome o (λ addr. (text ≡ addr_text addr) × (0 < addr.port)) → IfSome o (λ addr. (addr.ip < 2 ^ 32) × (addr.port < 2 ^ 16)) → IfNone o ((addr : Addr) → IsAddr addr → ¬ (text ≡ addr_text addr)) → o ≡ addr_of text
address_is text (Some addr) found range none = sym (ap addr_of found.0 ∙ written_is_selected addr (record { ip = range.0; some = found.1; port = range.1 }))
address_is text None found range none = by_answer (addr_of text) refl
  where
    by_answer : (o : Option Addr) → addr_of text ≡ o → None ≡ addr_of text
    by_answer None e = sym e
    by_answer (Some addr) e = let k = spelled text addr e in absurd (none addr k.address k.text_of_it)
