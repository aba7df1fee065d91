-- What was looked at once holds of longer bytes too.
use Rattle.std.proofs.Common.{sym, ap, subst, ◌∙◌, ℕ, List, ◌++◌, false, arith}
use Rattle.std.proofs.lemmas.List.{length-append, take-append-le}
use Rattle.http_frames.specs.NextUnit.{unit_of}
use Rattle.http_frames.specs.declared.state.BodyState.{BodyState}
use Rattle.http_heads.specs.Fronts.{Looks, WereLooked}
use Rattle.http_heads.specs.declared.front.HeadPart.{HeadPart}
use Rattle.http_heads.specs.declared.front.HeadPart.TheVariants.{HeadOf, StreamEnds, Faulty, NoHead}
use Rattle.http_heads.specs.declared.front.Looked.{Looked}
use Rattle.http_heads.proofs.LookedHeads.{looked_stay}
use Rattle.conn.specs.Seen.{BodySeen, IsSeen}
use Rattle.conn.specs.declared.unread.Seen.{Seen}
use Rattle.conn.specs.declared.unread.Seen.TheVariants as seen

body_more : (text more : List ℕ) (reader : BodyState) (looked : ℕ) → BodySeen text reader looked → BodySeen (text ++ more) reader looked
body_more text more reader looked b = record {
  inside = (let all = length-append text more in omega (arith, all, b.inside));
  none = λ some. ap (λ t. unit_of reader t false) (take-append-le looked text more b.inside) ∙ b.none some;
}

pub still_seen : (text more : List ℕ) (s : Seen) → IsSeen text s → IsSeen (text ++ more) s
still_seen text more seen.Nothing h = tt
still_seen text more (seen.Head looked) h = looked_stay looked text more h
still_seen text more (seen.Body reader looked) h = body_more text more reader looked h

-- what a look for a head leaves
pub looks_seen : (part : HeadPart) (old new : Looked) (text : List ℕ) → WereLooked old text → Looks part old new text → WereLooked new text
looks_seen NoHead old new text were looks = looks.1
looks_seen (HeadOf n) old new text were looks = subst (λ x. WereLooked x text) (sym looks) were
looks_seen StreamEnds old new text were looks = subst (λ x. WereLooked x text) (sym looks) were
looks_seen (Faulty f) old new text were looks = subst (λ x. WereLooked x text) (sym looks) were
