-- What is read within a number of levels is read the same within more.
use Rattle.std.proofs.Common.{◌≢◌, ℕ, zero, suc, ◌≤◌, List, [], ◌∷◌, Result, Ok, Err, arith}
use Rattle.resp_value.specs.declared.value.Value.{Value}
use Rattle.resp_errors.specs.declared.kinds.FrameFault.{FrameFault}
use Rattle.resp_errors.specs.declared.kinds.FrameFault.TheVariants.{TooDeep}
use Rattle.resp_parse.specs.Grammar.{Announcement, complete, body, elements, invalid, announced, Joined, ElementsMake}
use Rattle.resp_parse.specs.Grammar.{Follows, WellFormed, ElementsAreMalformed, FaultFollows, FaultShows, Malformed}
use Rattle.resp_parse.specs.Laws.{MoreLevels}

-- what is as P says is as P' says
module _ (P P' : List ℕ → Value → Type 0) (well_formed : (b : List ℕ) (v : Value) → P b v → P' b v) where
  joined-kept : (vs : List Value) (b : List ℕ) → Joined P b vs → Joined P' b vs
  joined-kept [] b e = e
  joined-kept (v ∷ vs) b j = record {
    first = j.first;
    others = j.others;
    whole = j.whole;
    first_is = well_formed j.first v j.first_is;
    others_are =
        joined-kept vs j.others j.others_are;
  }

  elements-kept : (n : ℕ) (make : List Value → Result Value FrameFault) (b : List ℕ) (r : Result Value FrameFault)
      → ElementsMake P n make b r → ElementsMake P' n make b r
  elements-kept n make b r m = record
      { values = m.values; size = m.size; joined = joined-kept m.values b m.joined; makes = m.makes }

  follows-kept : (a : Announcement) (b : List ℕ) (v : Value) → Follows P a b v → Follows P' a b v
  follows-kept (complete w) b v h = h
  follows-kept (body n make) b v h = h
  follows-kept (elements n make) b v h = elements-kept n make b (Ok v) h
  follows-kept (invalid g) b v h = h

  -- and a fault that Q shows, Q' shows
  module _ (Q Q' : List ℕ → FrameFault → Type 0) (f : FrameFault) (bad : (b : List ℕ) → Q b f → Q' b f) where
    fault-kept : (a : Announcement) (b : List ℕ) → FaultFollows P Q a b f → FaultFollows P' Q' a b f
    fault-kept (complete w) b h = h
    fault-kept (body n make) b h = h
    fault-kept (elements n make) b (ElementsAreMalformed.bad_element w) = ElementsAreMalformed.bad_element (record {
      values = w.values;
      before = w.before;
      element = w.element;
      fewer = w.fewer;
      whole = w.whole;
      joined = joined-kept w.values w.before w.joined;
      malformed = bad w.element w.malformed;
    })
    fault-kept (elements n make) b (ElementsAreMalformed.refused m) = ElementsAreMalformed.refused
        (elements-kept n make b (Err f) m)
    fault-kept (invalid g) b h = h

    shows-kept : (b : List ℕ) → FaultShows P Q b f → FaultShows P' Q' b f
    shows-kept b (FaultShows.unknown_type c e n k) = FaultShows.unknown_type c e n k
    shows-kept b (FaultShows.line_not_utf8 kind text h u k) = FaultShows.line_not_utf8 kind text h u k
    shows-kept b (FaultShows.after_header kind text rest h u w) = FaultShows.after_header kind text rest h u
        (fault-kept (announced kind text) rest w)

well_formed-kept : (d e : ℕ) → d ≤ e → (b : List ℕ) (v : Value) → WellFormed d b v → WellFormed e b v
well_formed-kept zero e l b v g = absurd g
well_formed-kept (suc d) zero l b v g = absurd (omega arith)
well_formed-kept (suc d) (suc e) l b v g = record {
  kind = g.kind;
  text = g.text;
  rest = g.rest;
  header = g.header;
  text_is_utf8 = g.text_is_utf8;
  follows = follows-kept (WellFormed d) (WellFormed e) (well_formed-kept d e (omega arith)) (announced g.kind g.text)
      g.rest v g.follows;
}

malformed-kept : (d e : ℕ) → d ≤ e → (f : FrameFault) → f ≢ TooDeep → (b : List ℕ) → Malformed d b f → Malformed e b f
malformed-kept zero e l f n b h = absurd (n h.fault_is)
malformed-kept (suc d) zero l f n b h = absurd (omega arith)
malformed-kept (suc d) (suc e) l f n b h = shows-kept (WellFormed d) (WellFormed e) (well_formed-kept d e (omega arith))
    (Malformed d) (Malformed e) f (malformed-kept d e (omega arith) f n) b h

pub law_of_levels : (d e : ℕ) (b : List ℕ) → d ≤ e → MoreLevels d e b
law_of_levels d e b l = record { well_formed = well_formed-kept d e l b; malformed = λ f n. malformed-kept d e l f n b }
