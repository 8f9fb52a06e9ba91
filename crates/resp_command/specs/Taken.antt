-- What n replies take from bytes (RESP3, "Pushes": a push may come before, between and after them).
use Rattle.std.specs.Prelude.{◌≡◌, ◌≢◌, ℕ, ◌<◌, ◌≤◌, ◌-◌, List, [], ◌∷◌, ◌++◌, length, map, filter, filter_map, Option}
use Rattle.std.specs.Prelude.{None}
use Rattle.std.specs.Prelude.{Some, is_none, is_some}
use Rattle.resp_value.specs.declared.value.Value.{Value, out-Value}
use Rattle.resp_value.specs.declared.value.Value.TheOpen.{Value-F}
use Rattle.resp_value.specs.declared.value.PushInfo.{PushInfo}
use Rattle.resp_errors.specs.declared.kinds.FrameFault.{FrameFault}
use Rattle.resp_errors.specs.declared.kinds.FrameFault.TheVariants.{TooManyPushes}
use Rattle.resp_parse.specs.declared.limits.Limits.{Limits}
use Rattle.resp_parse.specs.Limited.{WellFormedWithin, HasFault, Awaits}

-- the push that a value is, if it is one
abbrev pub as_push_in : Value-F Value → Option PushInfo
as_push_in (Value-F.Push kind payload) = Some (record { kind = kind; payload = payload })
as_push_in _ = None

abbrev pub as_push : Value → Option PushInfo
as_push v = as_push_in (out-Value v)

-- a value, and the bytes that spell it
pub record Frame : Type 0 where
  pub bytes : List ℕ
  pub value : Value

-- the bytes of frames, joined
abbrev pub bytes_of : List Frame → List ℕ
bytes_of [] = []
bytes_of (f ∷ fs) = f.bytes ++ bytes_of fs

-- each value is spelled by its bytes, within the limits
abbrev pub AreFrames : Limits → List Frame → Type 0
AreFrames l [] = Unit {0}
AreFrames l (f ∷ fs) = WellFormedWithin l f.bytes f.value × AreFrames l fs

abbrev pub values_of : List Frame → List Value
values_of = map (λ f. f.value)

-- the pushes in frames, and the replies: all other values
abbrev pub pushes_in : List Frame → List PushInfo
pushes_in fs = filter_map as_push (values_of fs)

abbrev pub replies_in : List Frame → List Value
replies_in fs = filter (λ v. is_none (as_push v)) (values_of fs)

-- pushes that are set aside, and how many bytes spelled them
pub record Aside : Type 0 where
  pub pushes : List PushInfo
  pub bytes : ℕ

abbrev pub no_pushes : Aside
no_pushes = record { pushes = []; bytes = 0 }

-- those in frames
abbrev pub push_bytes : List Frame → ℕ
push_bytes fs = length (bytes_of (filter (λ f. is_some (as_push f.value)) fs))

abbrev pub aside_of : List Frame → Aside
aside_of fs = record { pushes = pushes_in fs; bytes = push_bytes fs }

-- a prefix of the bytes are these frames, each within the limits, and the rest follows it
pub record PrefixReads (l : Limits) (b : List ℕ) (frames : List Frame) (rest : List ℕ) : Type 0 where
  pub whole : b ≡ bytes_of frames ++ rest
  pub frames_are : AreFrames l frames

-- a push follows
pub record FollowsPush (l : Limits) (rest later : List ℕ) : Type 0 where
  pub push : Frame
  pub prefix : PrefixReads l rest (push ∷ []) later
  pub is_push : replies_in (push ∷ []) ≡ []

-- a push follows that takes more bytes than there is room for
pub record PushPasses (l : Limits) (room : ℕ) (rest : List ℕ) : Type 0 where
  pub later : List ℕ
  pub follows : FollowsPush l rest later
  pub passes : room < push_bytes (follows.push ∷ [])

-- why no frame is taken, where there is room for so many bytes of pushes: a fault, or a push that
-- passes the limit
pub data MeetsFault (l : Limits) (room : ℕ) (rest : List ℕ) (f : FrameFault) : Type 0 where
  in_bytes : HasFault l rest f → MeetsFault l room rest f
  too_many_pushes : f ≡ TooManyPushes → PushPasses l room rest → MeetsFault l room rest f

-- the pushes in frames, of which the last may be a push that found no room in memory
pub data ListsPushes (frames : List Frame) (aside : Aside) : Type 0 where
  all : aside ≡ aside_of frames → ListsPushes frames aside
  all_but_last : (before : List Frame) (push : Frame) → frames ≡ before ++ push ∷ []
      → replies_in (push ∷ []) ≡ [] → aside ≡ aside_of before → ListsPushes frames aside

-- the frames hold n replies, and the last frame is the last of them: all that stand before it hold
-- fewer
pub record EndsAtReply (n : ℕ) (frames : List Frame) : Type 0 where
  pub enough : length (replies_in frames) ≡ n
  pub least : (before after : List Frame) (f : Frame) →
      frames ≡ before ++ f ∷ after → length (replies_in before) < n

-- what n replies take from bytes: the replies, the pushes before the last of them, and the rest;
-- or, before they are all there, a fault or the end of the bytes, and the pushes so far
pub data Taking : Type 0 where
  took : (replies : List Value) → (aside : Aside) → (rest : List ℕ) → Taking
  met_fault : FrameFault → (aside : Aside) → Taking
  ended_early : (aside : Aside) → Taking

-- the least prefix that holds n replies, with room for its pushes
pub record TakesAll (l : Limits) (room n : ℕ) (b : List ℕ) (replies : List Value)
    (aside : Aside) (rest : List ℕ) : Type 0 where
  pub frames : List Frame
  pub prefix : PrefixReads l b frames rest
  pub ends : EndsAtReply n frames
  pub replies_are : replies ≡ replies_in frames
  pub aside_is : aside ≡ aside_of frames
  pub fits : aside.bytes ≤ room

-- frames that hold fewer than n replies, with room for their pushes, and then something else
pub record TakesFewer (l : Limits) (room n : ℕ) (b : List ℕ) (aside : Aside)
    (After : List ℕ → Type 0) : Type 0 where
  pub frames : List Frame
  pub rest : List ℕ
  pub prefix : PrefixReads l b frames rest
  pub few : length (replies_in frames) < n
  pub aside_is : aside ≡ aside_of frames
  pub fits : aside.bytes ≤ room
  pub follows : After rest

-- by a reader with limits, which has room for so many bytes of pushes
unfoldable pub Taken : Limits → (room n : ℕ) → List ℕ → Taking → Type 0
Taken l room n b (took replies aside rest) = TakesAll l room n b replies aside rest
Taken l room n b (met_fault f aside) =
    TakesFewer l room n b aside (λ rest. MeetsFault l (room - aside.bytes) rest f)
Taken l room n b (ended_early aside) = TakesFewer l room n b aside (Awaits l)

-- the bytes hold fewer than n replies, and no fault
pub record IsShort (l : Limits) (room n : ℕ) (b : List ℕ) : Type 0 where
  pub aside : Aside
  pub ends : Taken l room n b (ended_early aside)

-- bytes came after b only while there were too few: before the last of them, as many as one read
-- asks for at most, n replies weren't there, nor a fault
pub record ArrivedAsNeeded (l : Limits) (room most n : ℕ) (b arrived : List ℕ) : Type 0 where
  pub before : List ℕ
  pub last : List ℕ
  pub whole : arrived ≡ before ++ last
  pub some : last ≡ [] → before ≡ []
  pub size : length last ≤ most
  pub short : last ≢ [] → IsShort l room n (b ++ before)

-- whatever bytes come: n replies within the limits take one thing from them, and nothing else
pub record TakesOneThing (l : Limits) (room n : ℕ) (b : List ℕ) : Type 0 where
  pub taking : Taking
  pub taken : Taken l room n b taking
  pub only : (other : Taking) → Taken l room n b other → other ≡ taking
