-- Units of a body that are gathered, by what the code finds in front.
use Rattle.std.proofs.Common.{◌≡◌, refl, sym, ap, subst, ◌∙◌, ℕ, zero, suc, ◌+◌, ◌-◌, ◌<◌, ◌≤◌, List, [], ◌∷◌, ◌++◌, append_assoc, take, drop, drop-drop, length, length-append, length-drop, nat_eq, nat_lt, Bool, true, false, true≢false, ◌&&◌, ◌||◌, not, Some, arith}
use Rattle.std.proofs.lemmas.Bool.Decides.{nat_tests}
use Rattle.px_bytes.specs.declared.addr.Side.{Side}
use Rattle.px_bytes.specs.declared.addr.Side.TheVariants.{Client, Server}
use Rattle.px_bytes.specs.declared.fault.HttpFault.{HttpFault}
use Rattle.core_events.specs.declared.note.Note.{Note}
use Rattle.http_frames.specs.Parts.{Byte, part_by, part_of}
use Rattle.http_frames.specs.States.{after_unit}
use Rattle.http_frames.specs.Units.{IsUnit}
use Rattle.http_frames.specs.declared.state.BodyState.{BodyState}
use Rattle.http_frames.specs.declared.state.BodyState.TheVariants as body
use Rattle.http_frames.specs.declared.unit.Unit.{Unit as BodyUnit}
use Rattle.http_frames.specs.declared.unit.Unit.TheVariants as unit
use Rattle.http_frames.proofs.NextUnits.{unit_is}
use Rattle.http_frames.proofs.Taken.{Inside, inside}
use Rattle.irule_http.specs.declared.state.Http.{Http}
use Rattle.conn_trace.specs.Fronts.{after_byte, is_at_end}
use Rattle.conn_trace.specs.Http.{gathered_so, with_gathered, with_whole}
use Rattle.conn_trace.specs.Units.{GoesOn, Holds, after_bytes}
use Rattle.conn_trace.proofs.Units.{byte_here, holds_on}
use Rattle.conn.specs.Acts.{WaitsFor}
use Rattle.conn.specs.Changes.{Enters}
use Rattle.conn.specs.Ends.{end_of, is_up}
use Rattle.conn.specs.Events.{gathered_at}
use Rattle.conn.specs.Forwarding.{LooksAt}
use Rattle.conn.specs.Gathering.{Gathered, Gathers, GathersBody, GathersBy, GathersPiece, GathersUnit, GathersUnits, Line, NoneYet, Piece, TakesPiece, Then, UnitGathered, gathered, gathered_to, goes_on, http_of_host, piece_gathered}
use Rattle.conn.specs.Hosts.{begun_host}
use Rattle.conn.specs.Messages.{RefusesOf}
use Rattle.conn.specs.Relaying.{read_ends}
use Rattle.conn.specs.Stages.{entered_stage, http_in}
use Rattle.conn.specs.declared.connection.Conn.{Conn}
use Rattle.conn.specs.declared.ends.Ends.{Ends}
use Rattle.conn.specs.declared.gather.Portion.{Portion}
use Rattle.conn.specs.declared.host.RuleHost.{RuleHost}
use Rattle.conn.specs.declared.setup.Setup as code_setup
use Rattle.conn.specs.declared.turn.Act.{Act}
use Rattle.conn.specs.declared.turn.Act.TheVariants as act
use Rattle.conn.proofs.Dropped.{finish_inside}
use Rattle.conn.proofs.Dropping.{piece_after, piece_holds}

-- ---- readers

after_more : (m : ℕ) (s : BodyState) → after_byte (after_bytes m s) ≡ after_bytes (suc m) s
after_more zero s = refl
after_more (suc m) s = after_more m (after_byte s)

holds_behind : (m : ℕ) (s : BodyState) → Holds (suc m) s → Holds 1 (after_bytes m s)
holds_behind zero s holds = holds
holds_behind (suc m) s holds = holds_behind m (after_byte s) (holds_on s (suc m) holds)

-- a part of a piece is of the body too
holds_less : (s : BodyState) (m n : ℕ) → n ≤ m → Holds m s → Holds n s
holds_less (body.Left k) m n less h = omega (arith, less, h)
holds_less body.FirstLine m n less h = omega (arith, less, h)
holds_less (body.Chunk k) m n less h = omega (arith, less, h)
holds_less body.NextLine m n less h = omega (arith, less, h)
holds_less body.ToEnd m n less h = tt

byte_there : (s : BodyState) (held : List ℕ) (ended : Bool) → Holds 1 s → 1 ≤ length held → part_of s held ended ≡ Byte
byte_there s [] ended holds some = absurd (omega (arith, some))
byte_there s (b ∷ held) ended holds some = byte_here s 0 b held ended holds

-- one byte less than all of it leaves it open
goes_less : (s : BodyState) (m : ℕ) → Holds (suc m) s → GoesOn m s
goes_less (body.Left k) m holds = holds
goes_less body.FirstLine m holds = absurd (omega (arith, holds))
goes_less (body.Chunk k) m holds = omega (arith, holds)
goes_less body.NextLine m holds = absurd (omega (arith, holds))
goes_less body.ToEnd m holds = tt

more_left : (m : ℕ) → is_at_end (body.Left m) ≡ false → 1 ≤ m
more_left zero is = absurd (true≢false is)
more_left (suc m) is = omega arith

goes_more : (s : BodyState) (n : ℕ) → Holds n s → is_at_end (after_unit s (unit.Piece n)) ≡ false → GoesOn n s
goes_more (body.Left k) n holds is = let some = more_left (k - n) is in omega (arith, some)
goes_more body.FirstLine n holds is = holds
goes_more (body.Chunk k) n holds is = holds
goes_more body.NextLine n holds is = holds
goes_more body.ToEnd n holds is = tt

-- ---- bytes

take_last : (m : ℕ) (u : List ℕ) → take m u ++ take 1 (drop m u) ≡ take (suc m) u
take_last zero u = refl
take_last (suc m) [] = refl
take_last (suc m) (b ∷ u) = ap (λ x. b ∷ x) (take_last m u)

-- two pieces one after the other are one
with_twice : (a c : List ℕ) (s t : BodyState) (h : Http) → with_gathered c t (with_gathered a s h) ≡ with_gathered (a ++ c) t h
with_twice a c s t h =
    let so : gathered_so h.gathered + length a + length c ≡ gathered_so h.gathered + length (a ++ c) = (let e = length-append a c in omega (arith, e)) in
    ap (λ p. with_both (gathered_so h.gathered + length a + length c) p) (append_assoc h.payload a c) ∙ ap (λ n. with_both n (h.payload ++ (a ++ c))) so
  where
    with_both : ℕ → List ℕ → Http
    with_both n payload = record h { reader = t; whole = is_at_end t; gathered = Some n; payload = payload }

read_unread : (side : Side) (m : ℕ) (e : Ends) → (end_of side (read_ends side m e)).unread ≡ drop m (end_of side e).unread
read_unread Client m e = refl
read_unread Server m e = refl

read_twice : (side : Side) (m k : ℕ) (e : Ends) → read_ends side k (read_ends side m e) ≡ read_ends side (m + k) e
read_twice Client m k e = ap (λ u. record e { client = record e.client { unread = u } }) (drop-drop k m e.client.unread)
read_twice Server m k e = ap (λ u. record e { server = record e.server { unread = u } }) (drop-drop k m e.server.unread)

part_behind : (side : Side) (m : ℕ) (s : BodyState) (e : Ends) → Holds 1 s → m + 1 ≤ length (end_of side e).unread → part_of s (end_of side (read_ends side m e)).unread (end_of side (read_ends side m e)).ended ≡ Byte
part_behind Client m s e holds within = let d = length-drop m e.client.unread in byte_there s (drop m e.client.unread) e.client.ended holds (omega (arith, d, within))
part_behind Server m s e holds within = let d = length-drop m e.server.unread in byte_there s (drop m e.server.unread) e.server.ended holds (omega (arith, d, within))

-- ---- the last one

and_true : (b : Bool) → (b && true) ≡ b
and_true true = refl
and_true false = refl

or_true : (b : Bool) → (b || true) ≡ true
or_true true = refl
or_true false = refl

last_by : (w : ℕ) (b : Bool) → 1 ≤ w → (nat_lt 0 (w - 1) && not b) ≡ false → (nat_eq w 1 || b) ≡ true
last_by w true some is = or_true (nat_eq w 1)
last_by w false some is =
    let none : nat_lt 0 (w - 1) ≡ false = sym (and_true (nat_lt 0 (w - 1))) ∙ is in
    let one : w ≡ 1 = grind (arith, nat_tests, none, some) in
    subst (λ x. (nat_eq x 1 || false) ≡ true) (sym one) refl

-- more is wanted, and the body isn't at its end
record Open (p : Portion) : Type 0 where
  wanted : 1 ≤ p.wanted
  stays : is_at_end p.reader ≡ false

open_by : (p : Portion) → true ≡ goes_on p → Open p
open_by p is = by_end (is_at_end p.reader) refl
  where
    by_end : (b : Bool) → is_at_end p.reader ≡ b → Open p
    by_end true e = absurd (true≢false (is ∙ ap (λ b. nat_lt 0 p.wanted && not b) e ∙ never (nat_lt 0 p.wanted)))
      where
        never : (b : Bool) → (b && false) ≡ false
        never true = refl
        never false = refl
    by_end false e =
        let some : nat_lt 0 p.wanted ≡ true = sym (is ∙ ap (λ b. nat_lt 0 p.wanted && not b) e ∙ and_true (nat_lt 0 p.wanted)) in
        record { wanted = grind (arith, nat_tests, some); stays = e }

module _ (side : Side) (at : Portion) (http : Http) (e : Ends) where
  abbrev from : Gathered
  from = gathered at http e

  abbrev held : List ℕ
  held = (end_of side e).unread

  unit_there : (u : BodyUnit) → LooksAt side at.reader e u → IsUnit at.reader held (end_of side e).ended u
  unit_there u looks = subst (IsUnit at.reader held (end_of side e).ended) (sym looks) (unit_is held (end_of side e).ended at.reader)

  pub there_inside : (u : BodyUnit) → LooksAt side at.reader e u → Inside held u
  there_inside u looks = inside at.reader held (end_of side e).ended u (unit_there u looks)

  module _ (size n : ℕ) (looks : LooksAt side at.reader e (unit.Piece size)) (some : 0 < n) (less : n ≤ size) (few : n ≤ at.wanted) (at' : Portion) (http' : Http) (e' : Ends) (took : TakesPiece side n at http e at' http' e') where
    holds : Holds n at.reader
    holds = holds_less at.reader size n less (piece_holds at.reader held (end_of side e).ended size (unit_there (unit.Piece size) looks))

    within : n ≤ length held
    within = let w = (there_inside (unit.Piece size) looks).within in omega (arith, less, w)

    reader : at'.reader ≡ after_unit at.reader (unit.Piece n)
    reader = ap (λ p. p.reader) took.place

    wanted : at'.wanted ≡ at.wanted - n
    wanted = ap (λ p. p.wanted) took.place

    -- more is wanted behind it
    more : Open at' → GathersUnit side from (gathered at' http' e')
    more o =
        let left = o.wanted in
        let k : GathersPiece side n from = record { some = some; there = within; more = omega (arith, left, wanted, few); goes_on = goes_more at.reader n holds (sym (ap is_at_end reader) ∙ o.stays) } in
        let same : after_bytes n at.reader ≡ after_unit at.reader (unit.Piece n) = piece_after n at.reader some holds in
        let back : piece_gathered side n from ≡ gathered at' http' e' =
        ap (λ r. gathered (record { wanted = at.wanted - n; reader = r }) (with_gathered (take n held) r http) (read_ends side n e)) same
        ∙ ap (λ p. gathered p (with_gathered (take n held) p.reader http) (read_ends side n e)) (sym took.place)
        ∙ ap (λ h. gathered at' h (read_ends side n e)) (sym took.known)
        ∙ ap (gathered at' http') (sym took.ends) in
        subst (GathersUnit side from) back (Piece n k)

    -- or it was the last
    last : goes_on at' ≡ false → GathersUnits side from (gathered at' http' e') (unit.Piece size)
    last stops = by_count n refl
      where
        over : (nat_lt 0 (at.wanted - n) && not (is_at_end (after_bytes n at.reader))) ≡ false
        over =
            ap (λ r. nat_lt 0 (at.wanted - n) && not (is_at_end r)) (piece_after n at.reader some holds ∙ sym reader)
            ∙ ap (λ w. nat_lt 0 w && not (is_at_end at'.reader)) (sym wanted)
            ∙ stops

        known : http' ≡ with_gathered (take n held) (after_bytes n at.reader) http
        known = took.known ∙ ap (λ r. with_gathered (take n held) r http) (reader ∙ sym (piece_after n at.reader some holds))

        by_count : (k : ℕ) → n ≡ k → GathersUnits side from (gathered at' http' e') (unit.Piece size)
        by_count zero is = absurd (omega (arith, some, is))
        by_count (suc zero) is =
            let one : Holds 1 at.reader = subst (λ x. Holds x at.reader) is holds in
            record {
              mid = from;
              units = NoneYet;
              stops = record {
                part = byte_there at.reader held (end_of side e).ended one (omega (arith, within, is));
                last = last_by at.wanted (is_at_end (after_byte at.reader)) (omega (arith, some, few)) (subst (λ x. (nat_lt 0 (at.wanted - x) && not (is_at_end (after_bytes x at.reader))) ≡ false) is over);
                ends = took.ends ∙ ap (λ x. read_ends side x e) is;
                http = subst (λ x. http' ≡ with_gathered (take x held) (after_bytes x at.reader) http) is known;
              };
            }
        by_count (suc (suc j)) is =
            let m = suc j in
            let all : Holds (suc m) at.reader = subst (λ x. Holds x at.reader) is holds in
            let mid = piece_gathered side m from in
            let one : at.wanted - n ≡ mid.at.wanted - 1 = omega (arith, is) in
            let next = after_more m at.reader in
            let piece : GathersPiece side m from = record { some = omega arith; there = omega (arith, within, is); more = omega (arith, few, is); goes_on = goes_less at.reader m all } in
            record {
              mid = mid;
              units = Then from mid NoneYet (Piece m piece);
              stops = record {
                part = part_behind side m (after_bytes m at.reader) e (holds_behind m at.reader all) (omega (arith, within, is));
                last = last_by mid.at.wanted (is_at_end (after_byte mid.at.reader)) (omega (arith, few, is))
                    (ap (λ r. nat_lt 0 (mid.at.wanted - 1) && not (is_at_end r)) (next ∙ ap (λ x. after_bytes x at.reader) (sym is)) ∙ ap (λ w. nat_lt 0 w && not (is_at_end (after_bytes n at.reader))) (sym one) ∙ over);
                ends = took.ends ∙ ap (λ x. read_ends side x e) (let s : n ≡ m + 1 = omega (arith, is) in s) ∙ sym (read_twice side m 1 e);
                http = known
                    ∙ ap (λ x. with_gathered (take x held) (after_bytes x at.reader) http) is
                    ∙ ap (λ r. with_gathered (take (suc m) held) r http) (sym next)
                    ∙ ap (λ u. with_gathered u (after_byte (after_bytes m at.reader)) http) (sym (take_last m held))
                    ∙ sym (with_twice (take m held) (take 1 (drop m held)) (after_bytes m at.reader) (after_byte (after_bytes m at.reader)) http)
                    ∙ ap (λ u. with_gathered (take 1 u) (after_byte (after_bytes m at.reader)) (with_gathered (take m held) (after_bytes m at.reader) http)) (sym (read_unread side m e));
              };
            }

    -- by what the code says of it
    pub piece_goes : (goes : Bool) → goes ≡ goes_on at' → UnitGathered goes side (unit.Piece size) from (gathered at' http' e')
    piece_goes true is = more (open_by at' is)
    piece_goes false is = last (sym is)

  -- what isn't gathered
  pub stops_there : (u : BodyUnit) → ((n : ℕ) → u ≡ unit.Piece n → ⊥) → ((line size : ℕ) → u ≡ unit.ChunkLine line size → ⊥) → LooksAt side at.reader e u → GathersUnits side from from u
  stops_there (unit.Piece n) piece line looks = absurd (piece n refl)
  stops_there (unit.ChunkLine n size) piece line looks = absurd (line n size refl)
  stops_there (unit.Finished n) piece line looks = record { mid = from; units = NoneYet; stops = (refl, looks) }
  stops_there unit.NotYet piece line looks = record { mid = from; units = NoneYet; stops = (refl, looks) }
  stops_there (unit.Fault f) piece line looks = record { mid = from; units = NoneYet; stops = (refl, looks) }

  pub line_goes : (line size : ℕ) → LooksAt side at.reader e (unit.ChunkLine line size) → (at' : Portion) (e' : Ends) → at' ≡ record at { reader = body.Chunk size } → e' ≡ read_ends side line e → GathersUnit side from (gathered at' http e')
  line_goes line size looks at' e' place ends =
      let back = ap (λ p. gathered p http (read_ends side line e)) (sym place) ∙ ap (gathered at' http) (sym ends) in
      subst (GathersUnit side from) back (Line line size (ap part_by (sym looks)))

-- units one after another
joins : (side : Side) (first p q : Gathered) → Gathers side first p → Gathers side p q → Gathers side first q
joins side first p q a NoneYet = a
joins side first p q a (Then m r b u) = Then m r (joins side first p m a b) u

pub units_on : (side : Side) (first p q : Gathered) (u : BodyUnit) → Gathers side first p → GathersUnits side p q u → GathersUnits side first q u
units_on side first p q u a k = record { mid = k.mid; units = joins side first p k.mid a k.units; stops = k.stops }

-- ---- what a connection does with them

module _ (s : code_setup.Setup) (c : ℕ) (side : Side) (from to : Portion) (old new : Conn) (known : Http) (e : Ends) (before after : List Note) where
  abbrev first : Gathered
  first = gathered from (http_in old.host) old.ends

  abbrev q : Gathered
  q = gathered to known e

  enters_as : (h h' : RuleHost) (x y : Ends) (mid mid' : Conn) → Enters s (gathered_at side) h x mid new → h ≡ h' → x ≡ y → mid.vars ≡ mid'.vars → Enters s (gathered_at side) h' y mid' new
  enters_as h h' x y mid mid' k hosts ends vars = record {
    there = k.there ∙ ap (λ z. entered_stage s (gathered_at side) z.link new.host) ends;
    vars = k.vars ∙ vars;
    host = k.host ∙ ap (λ z. begun_host (gathered_at side) (is_up z.link) h) ends ∙ ap (begun_host (gathered_at side) (is_up y.link)) hosts;
    ends = k.ends ∙ ends;
  }

  -- the last piece came
  pub last_enters : (n : ℕ) (mid : Conn) → GathersUnits side first q (unit.Piece n) → mid.host ≡ http_of_host known old.host → mid.ends ≡ e → mid.vars ≡ old.vars → Enters s (gathered_at side) mid.host mid.ends mid new → after ≡ before
      → GathersBody side from.wanted from.reader s c old new before after act.Goes
  last_enters n mid k host ends vars enters same =
      let p = k.mid in
      let here = gathered_to side p old in
      let http : Http = with_gathered (take 1 (end_of side p.ends).unread) (after_byte p.at.reader) p.http in
      let hosts : mid.host ≡ http_of_host http old.host = host ∙ ap (λ x. http_of_host x old.host) k.stops.http in
      let goes = enters_as mid.host (http_of_host http old.host) mid.ends (read_ends side 1 p.ends) mid here enters hosts (ends ∙ k.stops.ends) vars in
      record {
        to = p;
        passes = k.units;
        goes = subst (λ x. GathersBy x side p.at s c here new before after act.Goes) (sym k.stops.part) (refl, k.stops.last, goes, same);
      }

  -- what stands in front of what is left
  front_of : (u : BodyUnit) (did : Act) (mid : Gathered) → Gathers side first mid → q ≡ mid → LooksAt side mid.at.reader mid.ends u → GathersBy (part_by u) side to s c (gathered_to side q old) new before after did
      → GathersBody side from.wanted from.reader s c old new before after did
  front_of u did mid units is looks front =
      let here : LooksAt side to.reader e u = subst (λ p. LooksAt side p.at.reader p.ends u) (sym is) looks in
      record {
        to = q;
        passes = subst (Gathers side first) (sym is) units;
        goes = subst (λ x. GathersBy (part_by x) side to s c (gathered_to side q old) new before after did) here front;
      }

  pub end_inside : (n : ℕ) → GathersUnits side first q (unit.Finished n) → n ≤ length (end_of side e).unread
  end_inside n k =
      let looks : LooksAt side to.reader e (unit.Finished n) = subst (λ p. LooksAt side p.at.reader p.ends (unit.Finished n)) (sym k.stops.0) k.stops.1 in
      finish_inside to.reader (end_of side e).unread (end_of side e).ended n (sym looks)

  pub end_enters : (n : ℕ) (mid : Conn) → GathersUnits side first q (unit.Finished n) → mid.host ≡ http_of_host (with_whole known) old.host → mid.ends ≡ read_ends side n e → mid.vars ≡ old.vars → Enters s (gathered_at side) mid.host mid.ends mid new → after ≡ before
      → GathersBody side from.wanted from.reader s c old new before after act.Goes
  end_enters n mid k host ends vars enters same =
      let goes = enters_as mid.host (http_of_host (with_whole known) old.host) mid.ends (read_ends side n e) mid (gathered_to side q old) enters host ends vars in
      front_of (unit.Finished n) act.Goes k.mid k.units k.stops.0 k.stops.1 (refl, goes, same)

  pub waits_later : (did : Act) → GathersUnits side first q unit.NotYet → WaitsFor side s c (gathered_to side q old) new before after did → GathersBody side from.wanted from.reader s c old new before after did
  waits_later did k waits = front_of unit.NotYet did k.mid k.units k.stops.0 k.stops.1 waits

  pub refuses_later : (f : HttpFault) (did : Act) → GathersUnits side first q (unit.Fault f) → RefusesOf side f s c (gathered_to side q old) new before after did → GathersBody side from.wanted from.reader s c old new before after did
  refuses_later f did k refuses = front_of (unit.Fault f) did k.mid k.units k.stops.0 k.stops.1 refuses
