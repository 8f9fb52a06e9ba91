-- What the server answers to a command about keys, and what becomes of what they hold.
use Rattle.std.specs.Prelude.{◌≡◌, ℕ, ◌-◌, ◌&&◌, Bool, true, false, List, [], ◌∷◌, length, map, count_by, Option, None}
use Rattle.std.specs.Prelude.{Some, is_some, is_none, Result, Ok, Err, is_ok, MatchBool, MatchResult, Vec, ℤ, pos, ◌-ℤ◌}
use Rattle.std.specs.Prelude.{◌^◌, if◌then◌else◌}
use Rattle.std.specs.declared.alloc.Global.{Global}
use Rattle.std.specs.Option.{option_map}
use Rattle.std.specs.BTreeMap.{BTreeMap, IsUnchanged, Updates, get, insert_entry, is_at}
use Rattle.std.specs.Map.{remove_entry}
use Rattle.std.specs.Cmp.Lexicographic.{slice_cmp}
use Rattle.std.specs.declared.cmp.Ordering.{Ordering}
use Rattle.std.specs.Ordering.{nat_cmp}
use Rattle.std.specs.Fmt.{signed_decimal}
use Rattle.example_server.specs.Integers.{Writes}
use Rattle.example_server.specs.declared.command.KeyCommand.{KeyCommand}
use Rattle.example_server.specs.declared.command.KeyCommand.TheVariants as command
use Rattle.example_server.specs.declared.command.SetOptions.{SetOptions}
use Rattle.example_server.specs.declared.command.Expiry.{Expiry}
use Rattle.example_server.specs.declared.command.Expiry.TheVariants as expiry
use Rattle.example_server.specs.declared.command.Condition.{Condition}
use Rattle.example_server.specs.declared.command.Condition.TheVariants as condition
use Rattle.example_server.specs.declared.command.Reach.{Reach}
use Rattle.example_server.specs.declared.refusal.Refusal.{Refusal}
use Rattle.example_server.specs.declared.refusal.Refusal.TheVariants as refusal
use Rattle.example_server.specs.declared.reply.Reply.{Reply}
use Rattle.example_server.specs.declared.reply.Reply.TheVariants as reply
use Rattle.example_server.specs.declared.store.Entry.{Entry}
use Rattle.example_server.specs.declared.store.Content.{Content}
use Rattle.example_server.specs.declared.store.Content.TheVariants as content
use Rattle.example_server.specs.Times.{has_passed, reaches}

-- keys and fields
abbrev pub Key : Type 0
Key = Vec ℕ Global

-- they are in the order of their bytes
abbrev pub cmp : Key → Key → Ordering
cmp a b = slice_cmp nat_cmp a.items b.items

abbrev pub Store : Type 0
Store = BTreeMap Key Entry

-- what a key holds, and how long
abbrev pub held : Store → Key → Option Entry
held store key = get cmp store key

abbrev pub content_of : Option Entry → Option Content
content_of before = option_map (λ e. e.content) before

-- when the key expires, if it does
abbrev pub time_of : Option Entry → Option ℤ
time_of None = None
time_of (Some e) = e.expires

-- what is held until then; nothing where the time has come
abbrev pub living : Content → Option ℤ → Option Entry
living what expires =
    if has_passed expires then None else Some (record { content = what; expires = expires })

-- a copy of the string that is held, if anything is
abbrev pub text_in : Option Content → Result (Option (List ℕ)) Refusal
text_in None = Ok None
text_in (Some (content.Text text)) = Ok (Some text)
text_in (Some (content.Hash _)) = Err refusal.WrongType

-- the fields of the hash that is held, in order; none where nothing is held
abbrev pub fields_in : Option Content → Result (List (Key × List ℕ)) Refusal
fields_in None = Ok []
fields_in (Some (content.Hash fields)) = Ok fields.entries
fields_in (Some (content.Text _)) = Err refusal.WrongType

-- a refusal, or what is answered else
abbrev pub replied : {X : Type 0} → (X → Reply) → Result X Refusal → Reply
replied answer (Ok x) = answer x
replied answer (Err why) = reply.Refused why

-- GET answers the string
abbrev pub Gets : Store → Store → Key → Reply → Type 0
Gets old new key answer =
    IsUnchanged old new × (answer ≡ replied reply.Found (text_in (content_of (held old key))))

-- what NX and XX ask of what is held
abbrev pub is_met : Condition → Option Entry → Bool
is_met condition.Always before = true
is_met condition.IfAbsent before = is_none before
is_met condition.IfPresent before = is_some before

-- whether SET sets the key: with GET it refuses a hash
abbrev pub is_set : SetOptions → Option Entry → Bool
is_set options before =
    (if options.get then is_ok (text_in (content_of before)) else true) && is_met options.condition before

-- what SET answers: with GET the string that was held, and else whether the key is set
abbrev pub set_reply : SetOptions → Option Entry → Reply
set_reply options before = (if options.get then replied reply.Found (text_in (content_of before))
    else (if is_met options.condition before then reply.Okay else reply.Found None))

-- when a key expires that SET sets: KEEPTTL keeps its time
abbrev pub expiry_after : Expiry → Option Entry → Option ℤ
expiry_after expiry.Never before = None
expiry_after expiry.Kept before = time_of before
expiry_after (expiry.At time) before = Some time

abbrev pub Sets : Store → Store → Key → List ℕ → SetOptions → Reply → Type 0
Sets old new key value options answer =
    MatchBool (is_set options (held old key))
    (Updates cmp old new key (living (content.Text value) (expiry_after options.expiry (held old key))))
    (IsUnchanged old new)
    × (answer ≡ set_reply options (held old key))

-- the entries that are left where keys are removed
abbrev pub without : List Key → List (Key × Entry) → List (Key × Entry)
without [] entries = entries
without (key ∷ keys) entries = without keys (remove_entry (is_at (cmp key)) entries)

-- DEL answers how many keys it removed
abbrev pub Deletes : Store → Store → List Key → Reply → Type 0
Deletes old new keys answer = (new.entries ≡ without keys old.entries)
    × (answer ≡ reply.Count (length old.entries - length new.entries))

-- EXISTS answers how many of the keys are there, each as often as it is named
abbrev pub Counts : Store → Store → List Key → Reply → Type 0
Counts old new keys answer =
    IsUnchanged old new × (answer ≡ reply.Count (count_by (λ key. is_some (held old key)) keys))

-- whether EXPIRE gives a key that holds this the time
abbrev pub is_given : Reach → Option Entry → ℤ → Bool
is_given reached None time = false
is_given reached (Some e) time = reaches reached e.expires time

-- what is held, until another time
abbrev pub with_time : Option Entry → ℤ → Option Entry
with_time None time = None
with_time (Some e) time = living e.content (Some time)

-- EXPIRE answers whether the key is given the time; it goes where that has come
abbrev pub Expires : Store → Store → Key → ℤ → Reach → Reply → Type 0
Expires old new key time reached answer = MatchBool (is_given reached (held old key) time)
    (Updates cmp old new key (with_time (held old key) time) × (answer ≡ reply.Count 1))
    (IsUnchanged old new × (answer ≡ reply.Count 0))

-- one more than the integer that is held, or why there is none
abbrev pub CountsUp : Option Content → Result ℤ Refusal → Type 0
CountsUp None (Ok next) = next ≡ pos 1
CountsUp (Some (content.Text text)) (Ok next) = Writes text (next -ℤ pos 1)
CountsUp (Some (content.Text text)) (Err refusal.NotInteger) = (n : ℤ) → ¬ Writes text n
CountsUp (Some (content.Text text)) (Err refusal.Overflow) = Writes text (pos (2 ^ 63 - 1))
CountsUp (Some (content.Hash _)) (Err refusal.WrongType) = Unit {0}
CountsUp _ _ = ⊥

-- a key that is held as long as before
abbrev pub held_on : Store → Key → Content → Entry
held_on old key what = record { content = what; expires = time_of (held old key) }

-- INCR answers one more than was held, and the key holds that, as long as before
abbrev pub Increments : Store → Store → Key → Reply → Type 0
Increments old new key (reply.Integer next) = CountsUp (content_of (held old key)) (Ok next)
    × Updates cmp old new key (Some (held_on old key (content.Text (signed_decimal next))))
Increments old new key (reply.Refused why) =
    CountsUp (content_of (held old key)) (Err why) × IsUnchanged old new
Increments old new key _ = ⊥

-- the entries of a hash after fields are set, one after another
abbrev pub with_fields : List (Key × List ℕ) → List (Key × List ℕ) → List (Key × List ℕ)
with_fields entries [] = entries
with_fields entries (pair ∷ pairs) = with_fields (insert_entry cmp entries pair.0 pair.1) pairs

-- each key holds what it held, but that this one holds that
abbrev pub Holds : Store → Store → Key → Entry → Type 0
Holds old new key what =
    (q : Key) → held new q ≡ (if is_at (cmp key) q then Some what else held old q)

-- each other key holds what it held
abbrev pub KeepsOtherKeys : Store → Store → Key → Type 0
KeepsOtherKeys old new key = (q : Key) → is_at (cmp key) q ≡ false → held new q ≡ held old q

-- fields are set beside those that were there before, and those that are new are counted
abbrev pub PutsFields : Store → Store → Key → List (Key × List ℕ) → Option ℤ → List (Key × List ℕ) → Reply
    → Type 0
PutsFields old new key before expires pairs answer = (hash : BTreeMap Key (List ℕ))
    × (hash.entries ≡ with_fields before pairs)
    × Holds old new key (record { content = content.Hash hash; expires = expires })
    × (answer ≡ reply.Count (length hash.entries - length before))

-- HSET sets fields, and answers how many are new; the key keeps its time
abbrev pub SetsFields : Store → Store → Key → List (Key × List ℕ) → Reply → Type 0
SetsFields old new key pairs answer = MatchResult (fields_in (content_of (held old key)))
    (λ before. PutsFields old new key before (time_of (held old key)) pairs answer)
    (λ why. IsUnchanged old new × (answer ≡ reply.Refused why))

-- a field with its value
abbrev pub shown : Key × List ℕ → List ℕ × List ℕ
shown pair = (pair.0.items, pair.1)

-- HGETALL answers the fields in the order of their bytes
abbrev pub GetsAll : Store → Store → Key → Reply → Type 0
GetsAll old new key answer = IsUnchanged old new
    × (answer ≡ replied (λ entries. reply.Fields (map shown entries)) (fields_in (content_of (held old key))))

-- what a command does to the store, and what it is answered
abbrev pub AnswersKeys : Store → Store → KeyCommand → Reply → Type 0
AnswersKeys old new (command.Get key) = Gets old new key
AnswersKeys old new (command.Set key value options) = Sets old new key value options
AnswersKeys old new (command.Del keys) = Deletes old new keys.items
AnswersKeys old new (command.Exists keys) = Counts old new keys.items
AnswersKeys old new (command.Incr key) = Increments old new key
AnswersKeys old new (command.Expire key time reached) = Expires old new key time reached
AnswersKeys old new (command.HSet key pairs) = SetsFields old new key pairs.items
AnswersKeys old new (command.HGetAll key) = GetsAll old new key

-- where memory runs out nothing is changed, but that HSET may have taken the hash away
abbrev pub KeepsOnFailure : Store → Store → KeyCommand → Type 0
KeepsOnFailure old new (command.HSet key pairs) = Unit {0}
KeepsOnFailure old new _ = IsUnchanged old new
