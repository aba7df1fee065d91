-- What is known of unread bytes that were looked at before: no end of a head stands among them, or no
-- whole unit of a body.
use Rattle.std.specs.Prelude.{◌≤◌, ℕ, List, length}
use Rattle.http_frames.specs.Looked.{LookedAt}
use Rattle.http_frames.specs.declared.state.BodyState.{BodyState}
use Rattle.http_heads.specs.Fronts.{WereLooked}
use Rattle.conn.specs.declared.unread.Seen.{Seen}
use Rattle.conn.specs.declared.unread.Seen.TheVariants as seen

-- so many bytes at the front held no unit yet
pub record BodySeen (text : List ℕ) (reader : BodyState) (looked : ℕ) : Type 0 where
  pub inside : looked ≤ length text
  pub none : LookedAt reader text looked

abbrev pub IsSeen : List ℕ → Seen → Type 0
IsSeen text seen.Nothing = Unit {0}
IsSeen text (seen.Head looked) = WereLooked looked text
IsSeen text (seen.Body reader looked) = BodySeen text reader looked
