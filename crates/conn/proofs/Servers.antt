-- What the server connections before took, what items queue one after another, and the notes among them.
use Rattle.std.proofs.Common.{◌≡◌, refl, sym, ap, ◌∙◌, ℕ, zero, suc, ◌+◌, ◌-◌, ◌≤◌, List, [], ◌∷◌, ◌++◌, append_assoc, length, length-append, Option, Some, None, arith, slice_get, unwrap_or, Bool, true, false, true≢false, ◌||◌}
use Rattle.std.specs.Prelude.{option_map}
use Rattle.std.proofs.lemmas.Grind.{flat_map-append}
use Rattle.conn_trace.specs.Gates.{Counts, TakenCounts, sent_after, sent_from, taken_of, untaken}
use Rattle.conn_trace.specs.Item.{Item, Opened, Resumed, Answered, Read, Moved, Passed, Fired, Reused, Retires, Called, Connected, Logged, Sent, Ran, Finished, note_of, notes_of}
use Rattle.conn.specs.Calls.{more_at_last, none_at_last}
use Rattle.conn.specs.Servers.{ServerQueue, closed_behind, queue_along, queue_behind, run_notes, servers_output, to_servers, gives_up, is_retires}

-- ---- what each took

-- the last of them, and those before
pub last_at : (ts : List (Option ℕ)) (t : Option ℕ) → taken_of (ts ++ t ∷ []) (suc (length ts)) ≡ t
last_at [] t = refl
last_at (x ∷ ts) t = last_at ts t

slice_front : (ts more : List (Option ℕ)) (k : ℕ) → suc k ≤ length ts → slice_get (ts ++ more) k ≡ slice_get ts k
slice_front [] more k within = absurd (omega (arith, within))
slice_front (x ∷ ts) more zero within = refl
slice_front (x ∷ ts) more (suc k) within = slice_front ts more k (omega (arith, within))

pub taken_front : (ts more : List (Option ℕ)) (n : ℕ) → n ≤ length ts → taken_of (ts ++ more) n ≡ taken_of ts n
taken_front ts more zero within = refl
taken_front ts more (suc k) within = ap (λ o. unwrap_or o (Some 0)) (slice_front ts more k within)

pub none_behind : (ts : List (Option ℕ)) (t : Option ℕ) → none_at_last (ts ++ t ∷ []) ≡ ts ++ None ∷ []
none_behind [] t = refl
none_behind (x ∷ []) t = refl
none_behind (x ∷ (y ∷ ts)) t = ap (λ r. x ∷ r) (none_behind (y ∷ ts) t)

pub more_behind : (n : ℕ) (ts : List (Option ℕ)) (t : Option ℕ) → more_at_last n (ts ++ t ∷ []) ≡ ts ++ option_map (λ k. k + n) t ∷ []
more_behind n [] t = refl
more_behind n (x ∷ []) t = refl
more_behind n (x ∷ (y ∷ ts)) t = ap (λ r. x ∷ r) (more_behind n (y ∷ ts) t)

pub none_length : (ts : List (Option ℕ)) → length (none_at_last ts) ≡ length ts
none_length [] = refl
none_length (t ∷ []) = refl
none_length (t ∷ (u ∷ ts)) = ap suc (none_length (u ∷ ts))

pub more_length : (n : ℕ) (ts : List (Option ℕ)) → length (more_at_last n ts) ≡ length ts
more_length n [] = refl
more_length n (t ∷ []) = refl
more_length n (t ∷ (u ∷ ts)) = ap suc (more_length n (u ∷ ts))

-- where one took all it did so with a reset, or with more taken
abbrev left_at : List (Option ℕ) → ℕ → (sent : ℕ) → ℕ
left_at ts k sent = untaken sent (unwrap_or (slice_get ts k) (Some 0))

none_left : (ts : List (Option ℕ)) (k sent : ℕ) → left_at ts k sent ≡ 0 → left_at (none_at_last ts) k sent ≡ 0
none_left [] k sent e = e
none_left (t ∷ []) zero sent e = refl
none_left (t ∷ []) (suc k) sent e = e
none_left (t ∷ (u ∷ ts)) zero sent e = e
none_left (t ∷ (u ∷ ts)) (suc k) sent e = none_left (u ∷ ts) k sent e

more_taken : (n sent : ℕ) (t : Option ℕ) → untaken sent t ≡ 0 → untaken sent (option_map (λ k. k + n) t) ≡ 0
more_taken n sent None e = refl
more_taken n sent (Some k) e = omega (arith, e)

more_left : (n : ℕ) (ts : List (Option ℕ)) (k sent : ℕ) → left_at ts k sent ≡ 0 → left_at (more_at_last n ts) k sent ≡ 0
more_left n [] k sent e = e
more_left n (t ∷ []) zero sent e = more_taken n sent t e
more_left n (t ∷ []) (suc k) sent e = e
more_left n (t ∷ (u ∷ ts)) zero sent e = e
more_left n (t ∷ (u ∷ ts)) (suc k) sent e = more_left n (u ∷ ts) k sent e

pub none_untaken : (ts : List (Option ℕ)) (number sent : ℕ) → untaken sent (taken_of ts number) ≡ 0 → untaken sent (taken_of (none_at_last ts) number) ≡ 0
none_untaken ts zero sent e = e
none_untaken ts (suc k) sent e = none_left ts k sent e

pub more_untaken : (n : ℕ) (ts : List (Option ℕ)) (number sent : ℕ) → untaken sent (taken_of ts number) ≡ 0 → untaken sent (taken_of (more_at_last n ts) number) ≡ 0
more_untaken n ts zero sent e = e
more_untaken n ts (suc k) sent e = more_left n ts k sent e

-- ---- what items queue

pub queue_joins : (first second : List Item) (q : ServerQueue) → queue_along (first ++ second) q ≡ queue_along second (queue_along first q)
queue_joins [] second q = refl
queue_joins (i ∷ first) second q = queue_joins first second (queue_behind i q)

abbrev queue_left : ServerQueue → ℕ
queue_left q = length q.queued + q.lost

left_behind : (i : Item) (q : ServerQueue) → queue_left (queue_behind i q) ≡ queue_left q + length (to_servers i)
left_behind (Connected to) q = omega arith
left_behind (Opened gate) q = let n = length-append q.queued (to_servers (Opened gate)) in omega (arith, n)
left_behind Resumed q = let n = length-append q.queued (to_servers Resumed) in omega (arith, n)
left_behind (Answered made) q = let n = length-append q.queued (to_servers (Answered made)) in omega (arith, n)
left_behind (Read side n) q = let m = length-append q.queued (to_servers (Read side n)) in omega (arith, m)
left_behind (Moved side n to bytes) q = let m = length-append q.queued (to_servers (Moved side n to bytes)) in omega (arith, m)
left_behind (Passed side to bytes) q = let m = length-append q.queued (to_servers (Passed side to bytes)) in omega (arith, m)
left_behind (Fired side n) q = let m = length-append q.queued (to_servers (Fired side n)) in omega (arith, m)
left_behind (Reused kept) q = let m = length-append q.queued (to_servers (Reused kept)) in omega (arith, m)
left_behind Retires q = let m = length-append q.queued (to_servers Retires) in omega (arith, m)
left_behind (Called call) q = let m = length-append q.queued (to_servers (Called call)) in omega (arith, m)
left_behind (Logged text) q = let m = length-append q.queued (to_servers (Logged text)) in omega (arith, m)
left_behind (Sent to bytes) q = let m = length-append q.queued (to_servers (Sent to bytes)) in omega (arith, m)
left_behind (Ran event cost) q = let m = length-append q.queued (to_servers (Ran event cost)) in omega (arith, m)
left_behind (Finished reason) q = let m = length-append q.queued (to_servers (Finished reason)) in omega (arith, m)

-- all that is queued and lost is what was, and what they send
pub left_along : (items : List Item) (q : ServerQueue) → queue_left (queue_along items q) ≡ queue_left q + length (servers_output items)
left_along [] q = omega arith
left_along (i ∷ items) q =
    let one = left_behind i q in
    let rest = left_along items (queue_behind i q) in
    let n = length-append (to_servers i) (servers_output items) in
    omega (arith, one, rest, n)

pub servers_join : (first second : List Item) → servers_output (first ++ second) ≡ servers_output first ++ servers_output second
servers_join first second = flat_map-append to_servers first second

-- ---- their notes

pub run_joins : (c : ℕ) (sent : Counts) (took : TakenCounts) (first second : List Item) → run_notes c sent took (first ++ second) ≡ run_notes c sent took first ++ run_notes c (sent_from sent first) took second
run_joins c sent took [] second = refl
run_joins c sent took (i ∷ first) second =
    let s = sent_after i sent in
    let rest = run_notes c s took first in
    let more = run_notes c (sent_from s first) took second in
    ap (λ ns. note_of c i ++ (closed_behind c s took i ++ ns)) (run_joins c s took first second)
    ∙ ap (λ ns. note_of c i ++ ns) (sym (append_assoc (closed_behind c s took i) rest more))
    ∙ sym (append_assoc (note_of c i) (closed_behind c s took i ++ rest) more)

pub gives_up_on : (first second : List Item) → gives_up (first ++ second) ≡ (gives_up first || gives_up second)
gives_up_on [] second = refl
gives_up_on (i ∷ first) second = ap (λ b. is_retires i || b) (gives_up_on first second) ∙ or_assoc (is_retires i) (gives_up first) (gives_up second)
  where
    or_assoc : (a b c : Bool) → (a || (b || c)) ≡ ((a || b) || c)
    or_assoc true b c = refl
    or_assoc false b c = refl

-- where none is given up the notes are those of the items
pub plain_notes : (c : ℕ) (sent : Counts) (took : TakenCounts) (items : List Item) → gives_up items ≡ false → run_notes c sent took items ≡ notes_of c items
plain_notes c sent took [] e = refl
plain_notes c sent took (Retires ∷ items) e = absurd (true≢false e)
plain_notes c sent took (Opened gate ∷ items) e = plain_notes c (sent_after (Opened gate) sent) took items e
plain_notes c sent took (Resumed ∷ items) e = plain_notes c (sent_after Resumed sent) took items e
plain_notes c sent took (Answered made ∷ items) e = plain_notes c (sent_after (Answered made) sent) took items e
plain_notes c sent took (Read side n ∷ items) e = plain_notes c (sent_after (Read side n) sent) took items e
plain_notes c sent took (Moved side n to bytes ∷ items) e = plain_notes c (sent_after (Moved side n to bytes) sent) took items e
plain_notes c sent took (Called call ∷ items) e = plain_notes c (sent_after (Called call) sent) took items e
plain_notes c sent took (Sent to bytes ∷ items) e = plain_notes c (sent_after (Sent to bytes) sent) took items e
plain_notes c sent took (Ran event cost ∷ items) e = plain_notes c (sent_after (Ran event cost) sent) took items e
plain_notes c sent took (Passed side to bytes ∷ items) e = ap (λ ns. note_of c (Passed side to bytes) ++ ns) (plain_notes c (sent_after (Passed side to bytes) sent) took items e)
plain_notes c sent took (Fired side n ∷ items) e = ap (λ ns. note_of c (Fired side n) ++ ns) (plain_notes c (sent_after (Fired side n) sent) took items e)
plain_notes c sent took (Reused kept ∷ items) e = ap (λ ns. note_of c (Reused kept) ++ ns) (plain_notes c (sent_after (Reused kept) sent) took items e)
plain_notes c sent took (Connected to ∷ items) e = ap (λ ns. note_of c (Connected to) ++ ns) (plain_notes c (sent_after (Connected to) sent) took items e)
plain_notes c sent took (Logged text ∷ items) e = ap (λ ns. note_of c (Logged text) ++ ns) (plain_notes c (sent_after (Logged text) sent) took items e)
plain_notes c sent took (Finished reason ∷ items) e = ap (λ ns. note_of c (Finished reason) ++ ns) (plain_notes c (sent_after (Finished reason) sent) took items e)
