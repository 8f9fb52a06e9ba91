-- A command's ordinary arguments and the places of its cursors give its pieces back.
use Rattle.std.proofs.Common.{◌≡◌, ℕ, suc, zero, ◌+◌, ◌-◌, ◌≤◌, ◌<◌, Bool, true, false, nat_lt, cond, List, [], ◌∷◌}
use Rattle.std.proofs.Common.{◌++◌, length, drop, Option, None, Some, MatchOption, length-append, append_assoc, refl}
use Rattle.std.proofs.Common.{sym, ap, ◌∙◌, arith, subst, zero-add, add-zero}
use Rattle.std.specs.Prelude.{map, decimal, slice_get, slice_set}
use Rattle.std.specs.Option.{unwrap_or}
use Rattle.std.proofs.lemmas.List.{append-nil, map-append, length-map, length-drop}
use borrow.Author.Tests.{ltb-true, ltb-false}
use Rattle.resp_args.specs.Args.{Args}
use Rattle.resp_command.specs.declared.args_iter.Arg.TheVariants.{Simple, Cursor}
use Rattle.resp_command.specs.Cursors.{AscendWithin, HaveText, HoldsCursor, with_text_at}
use Rattle.resp_command.specs.declared.args_iter.ArgsIter.{ArgsIter}
use Rattle.resp_command.specs.ShownArgs.{args_left, shown_from}
use Rattle.resp_command.specs.Pieces.{IsInterleaved, Keeps, Pieces, cursor_places, ordinary, sent, sent_args, text_of}
use Rattle.resp_command.specs.Pieces.{interleaved}
use Rattle.resp_command.proofs.CursorArgs.{have_written}
use Rattle.resp_command.proofs.ArgsWalk.{none_at, passed, same_place}

-- ---- the pieces again

pub lt-test : (a b : ℕ) → a < b → nat_lt a b ≡ true
lt-test a b l = by_test (nat_lt a b) refl
  where
    by_test : (test : Bool) → nat_lt a b ≡ test → nat_lt a b ≡ true
    by_test true e = e
    by_test false e = absurd (let m = ltb-false a b e in omega arith)

pub ge-test : (a b : ℕ) → b ≤ a → nat_lt a b ≡ false
ge-test a b l = by_test (nat_lt a b) refl
  where
    by_test : (test : Bool) → nat_lt a b ≡ test → nat_lt a b ≡ false
    by_test false e = e
    by_test true e = absurd (let m = ltb-true a b e in omega arith)

pub interleaved-cursor : (place cursor : ℕ) (cursors : List ℕ) (args : Args) → cursor ≤ place
    → interleaved place (cursor ∷ cursors) args ≡ Cursor ∷ interleaved (place + 1) cursors args
interleaved-cursor place cursor cursors [] l = refl
interleaved-cursor place cursor cursors (arg ∷ args) l = let e = ge-test place cursor l in rw e refl

pub interleaved-simple : (place cursor : ℕ) (cursors : List ℕ) (arg : List ℕ) (args : Args) → place < cursor
    → interleaved place (cursor ∷ cursors) (arg ∷ args) ≡ Simple arg ∷ interleaved (place + 1) (cursor ∷ cursors) args
interleaved-simple place cursor cursors arg args l = let e = lt-test place cursor l in rw e refl

pub ascends : (place : ℕ) (pieces : Pieces) → AscendWithin place (place + length pieces) (cursor_places place pieces)
ascends place [] = omega arith
ascends place (Simple arg ∷ pieces) =
    let n : (place + 1) + length pieces ≡ place + suc (length pieces) = omega arith in
    lower (cursor_places (place + 1) pieces) (subst
    (λ end. AscendWithin (place + 1) end (cursor_places (place + 1) pieces)) n (ascends (place + 1) pieces))
  where
    lower : (places : List ℕ) → AscendWithin (place + 1) (place + suc (length pieces)) places
        → AscendWithin place (place + suc (length pieces)) places
    lower [] h = omega arith
    lower (first ∷ places) h = (let l = h.0 in omega arith, h.1)
ascends place (Cursor ∷ pieces) =
    let n : (place + 1) + length pieces ≡ place + suc (length pieces) = omega arith in (
      omega arith,
      subst (λ end. AscendWithin (place + 1) end (cursor_places (place + 1) pieces)) n
          (ascends (place + 1) pieces),
    )

simple-first : (place end : ℕ) (cursors : List ℕ) (arg : List ℕ) (args : Args) → AscendWithin (place + 1) end cursors
    → interleaved place cursors (arg ∷ args) ≡ Simple arg ∷ interleaved (place + 1) cursors args
simple-first place end [] arg args h = refl
simple-first place end (cursor ∷ cursors) arg args h = interleaved-simple place cursor cursors arg args
    (let l = h.0 in omega arith)

pub recovers : (place : ℕ) (pieces : Pieces) → interleaved place (cursor_places place pieces) (ordinary pieces) ≡ pieces
recovers place [] = refl
recovers place (Simple arg ∷ pieces) = simple-first place ((place + 1) + length pieces)
    (cursor_places (place + 1) pieces) arg (ordinary pieces) (ascends (place + 1) pieces)
    ∙ ap (λ rest. Simple arg ∷ rest) (recovers (place + 1) pieces)
recovers place (Cursor ∷ pieces) = interleaved-cursor place place (cursor_places (place + 1) pieces) (ordinary pieces)
    (omega arith) ∙ ap (λ rest. Cursor ∷ rest) (recovers (place + 1) pieces)

pub interleaved-counted : (place : ℕ) (cursors : List ℕ) (args : Args) → length (interleaved place cursors args)
    ≡ length args + length cursors
interleaved-counted place [] args = length-map args Simple ∙ sym (add-zero (length args))
interleaved-counted place (cursor ∷ cursors) [] = let r = interleaved-counted (place + 1) cursors [] in omega (arith, r)
interleaved-counted place (cursor ∷ cursors) (arg ∷ args) = by_test (nat_lt place cursor)
    (interleaved-counted (place + 1) (cursor ∷ cursors) args) (interleaved-counted (place + 1) cursors (arg ∷ args))
  where
    by_test : (test : Bool) → length (interleaved (place + 1) (cursor ∷ cursors) args) ≡ length args + length
        (cursor ∷ cursors) → length (interleaved (place + 1) cursors (arg ∷ args)) ≡ length (arg ∷ args) + length
        cursors
        → length (cond test (Simple arg ∷ interleaved (place + 1) (cursor ∷ cursors) args)
        (Cursor ∷ interleaved (place + 1) cursors (arg ∷ args))) ≡ length (arg ∷ args) + length (cursor ∷ cursors)
    by_test true r s = omega (arith, r)
    by_test false r s = omega (arith, s)

-- where there are no cursors, the ordinary arguments are what is sent
pub sent-plain : (text : List ℕ) (cursors : List ℕ) (args : Args) → length cursors ≡ 0
    → map (sent text) (interleaved 0 cursors args) ≡ args
sent-plain text [] [] e = refl
sent-plain text [] (arg ∷ args) e = ap (λ rest. arg ∷ rest) (sent-plain text [] args e)
sent-plain text (cursor ∷ cursors) args e = absurd (omega arith)

pub left_counted : (it : ArgsIter) → length (args_left it) ≡ (length it.encoded_args.now - it.taken) +
    (length it.cursors.now - it.passed)
left_counted it = let r = interleaved-counted (it.taken + it.passed) (drop it.passed it.cursors.now)
    (drop it.taken it.encoded_args.now) in omega
    (arith, r, length-drop it.taken it.encoded_args.now, length-drop it.passed it.cursors.now)

-- ---- what arguments and places that are those of some pieces give

pub record Interleaves (cursors : List ℕ) (args : Args) (pieces : Pieces) : Type 0 where
  pub view : interleaved 0 cursors args ≡ pieces
  pub are_interleaved : IsInterleaved cursors args

pub interleaves : (cursors : List ℕ) (args : Args) (pieces : Pieces) → cursors ≡ cursor_places 0 pieces
    → args ≡ ordinary pieces → Interleaves cursors args pieces
interleaves cursors args pieces e f =
    let v : interleaved 0 cursors args ≡ pieces = rw (e, f) (recovers 0 pieces) in
    record { view = v; are_interleaved = record { args_are = rw v f; cursors_are = rw v e } }

pub ordinary-append : (xs ys : Pieces) → ordinary (xs ++ ys) ≡ ordinary xs ++ ordinary ys
ordinary-append [] ys = refl
ordinary-append (Simple arg ∷ xs) ys = ap (λ args. arg ∷ args) (ordinary-append xs ys)
ordinary-append (Cursor ∷ xs) ys = ordinary-append xs ys

pub places-append : (place : ℕ) (xs ys : Pieces) → cursor_places place (xs ++ ys) ≡ cursor_places place xs
    ++ cursor_places (place + length xs) ys
places-append place [] ys = ap (λ n. cursor_places n ys) (sym (add-zero place))
places-append place (Simple arg ∷ xs) ys =
    let n : (place + 1) + length xs ≡ place + suc (length xs) = omega arith in
    places-append (place + 1) xs ys ∙ ap (λ k. cursor_places (place + 1) xs ++ cursor_places k ys) n
places-append place (Cursor ∷ xs) ys =
    let n : (place + 1) + length xs ≡ place + suc (length xs) = omega arith in
    ap (λ places. place ∷ places) (places-append (place + 1) xs ys
    ∙ ap (λ k. cursor_places (place + 1) xs ++ cursor_places k ys) n)

ordinary-simple : (args : Args) → ordinary (map Simple args) ≡ args
ordinary-simple [] = refl
ordinary-simple (arg ∷ args) = ap (λ rest. arg ∷ rest) (ordinary-simple args)

places-simple : (place : ℕ) (args : Args) → cursor_places place (map Simple args) ≡ []
places-simple place [] = refl
places-simple place (arg ∷ args) = places-simple (place + 1) args

sent-simple : (text : List ℕ) (args : Args) → map (sent text) (map Simple args) ≡ args
sent-simple text [] = refl
sent-simple text (arg ∷ args) = ap (λ rest. arg ∷ rest) (sent-simple text args)

-- ---- what the calls of a command do

pub appended : (cursors : List ℕ) (args more : Args) → IsInterleaved cursors args
    → Interleaves cursors (args ++ more) (interleaved 0 cursors args ++ map Simple more)
appended cursors args more h =
    let pieces = interleaved 0 cursors args in
    interleaves cursors (args ++ more) (pieces ++ map Simple more)
    (h.cursors_are ∙ sym (append-nil (cursor_places 0 pieces))
    ∙ sym (places-append 0 pieces (map Simple more) ∙ ap (λ places. cursor_places 0 pieces ++ places)
    (places-simple (0 + length pieces) more)))
    (ap (λ xs. xs ++ more) h.args_are ∙ sym (ordinary-append pieces (map Simple more) ∙ ap (λ xs. ordinary pieces ++ xs)
    (ordinary-simple more)))

pub sent-appended : (cursor : Option ℕ) (cursors : List ℕ) (args more : Args) → IsInterleaved cursors args
    → sent_args cursor cursors (args ++ more) ≡ sent_args cursor cursors args ++ more
sent-appended cursor cursors args more h =
    ap (map (sent (text_of cursor))) (appended cursors args more h).view
    ∙ map-append (sent (text_of cursor)) (interleaved 0 cursors args) (map Simple more)
    ∙ ap (λ xs. sent_args cursor cursors args ++ xs) (sent-simple (text_of cursor) more)

pub cursor-added : (cursors : List ℕ) (args : Args) (n : ℕ) → IsInterleaved cursors args
    → n ≡ length args + length cursors → Interleaves (cursors ++ n ∷ []) args
    (interleaved 0 cursors args ++ Cursor ∷ [])
cursor-added cursors args n h e =
    let pieces = interleaved 0 cursors args in
    let place : n ≡ 0 + length pieces = e ∙ sym (interleaved-counted 0 cursors args) ∙ sym (zero-add (length pieces)) in
    interleaves (cursors ++ n ∷ []) args (pieces ++ Cursor ∷ [])
    (ap (λ xs. xs ++ n ∷ []) h.cursors_are ∙ ap (λ k. cursor_places 0 pieces ++ k ∷ []) place
    ∙ sym (places-append 0 pieces (Cursor ∷ [])))
    (h.args_are ∙ sym (append-nil (ordinary pieces)) ∙ sym (ordinary-append pieces (Cursor ∷ [])))

-- the texts at the places of cursors are those that are sent
set-after : (front : Args) (arg text : List ℕ) (rest : Args) → slice_set (front ++ arg ∷ rest) (length front) text
    ≡ front ++ text ∷ rest
set-after [] arg text rest = refl
set-after (first ∷ front) arg text rest = ap (λ xs. first ∷ xs) (set-after front arg text rest)

retexted : (text old : List ℕ) (front : Args) (pieces : Pieces)
    → with_text_at text (cursor_places (length front) pieces) (front ++ map (sent old) pieces) ≡ front
    ++ map (sent text) pieces
retexted text old front [] = refl
retexted text old front (Simple arg ∷ pieces) =
    let n : length (front ++ arg ∷ []) ≡ length front + 1 = length-append front (arg ∷ []) in
    let r = retexted text old (front ++ arg ∷ []) pieces in
    let left : (front ++ arg ∷ []) ++ map (sent old) pieces ≡ front ++ arg ∷ map (sent old) pieces = append_assoc front
    (arg ∷ []) (map (sent old) pieces) in
    let right : (front ++ arg ∷ []) ++ map (sent text) pieces ≡ front ++ arg ∷ map (sent text) pieces = append_assoc
    front (arg ∷ []) (map (sent text) pieces) in
    ap (λ k. with_text_at text (cursor_places k pieces) (front ++ arg ∷ map (sent old) pieces)) (sym n)
    ∙ ap (with_text_at text (cursor_places (length (front ++ arg ∷ [])) pieces)) (sym left) ∙ r ∙ right
retexted text old front (Cursor ∷ pieces) =
    let n : length (front ++ text ∷ []) ≡ length front + 1 = length-append front (text ∷ []) in
    let r = retexted text old (front ++ text ∷ []) pieces in
    let left : (front ++ text ∷ []) ++ map (sent old) pieces ≡ front ++ text ∷ map (sent old) pieces = append_assoc
    front (text ∷ []) (map (sent old) pieces) in
    let right : (front ++ text ∷ []) ++ map (sent text) pieces ≡ front ++ text ∷ map (sent text) pieces = append_assoc
    front (text ∷ []) (map (sent text) pieces) in
    ap (with_text_at text (cursor_places (length front + 1) pieces)) (set-after front old text (map (sent old) pieces))
    ∙ ap (λ k. with_text_at text (cursor_places k pieces) (front ++ text ∷ map (sent old) pieces)) (sym n)
    ∙ ap (with_text_at text (cursor_places (length (front ++ text ∷ [])) pieces)) (sym left) ∙ r ∙ right

pub sent-again : (text old : List ℕ) (pieces : Pieces)
    → with_text_at text (cursor_places 0 pieces) (map (sent old) pieces) ≡ map (sent text) pieces
sent-again text old pieces = retexted text old [] pieces

pub sent-set : (cursor : ℕ) (old : Option ℕ) (cursors : List ℕ) (args : Args) → IsInterleaved cursors args
    → with_text_at (decimal cursor) cursors (sent_args old cursors args) ≡ sent_args (Some cursor) cursors args
sent-set cursor old cursors args h =
    ap (λ places. with_text_at (decimal cursor) places (sent_args old cursors args)) h.cursors_are
    ∙ sent-again (decimal cursor) (text_of old) (interleaved 0 cursors args)

pub sent-cursor-added : (cursor : ℕ) (old : Option ℕ) (cursors : List ℕ) (args : Args) (n : ℕ)
    → IsInterleaved cursors args → n ≡ length args + length cursors
    → with_text_at (decimal cursor) cursors (sent_args old cursors args ++ decimal cursor ∷ [])
    ≡ sent_args (Some cursor) (cursors ++ n ∷ []) args
sent-cursor-added cursor old cursors args n h e =
    let pieces = interleaved 0 cursors args in
    let text = decimal cursor in
    let w = cursor-added cursors args n h e in
    let mixed : sent_args old cursors args ++ text ∷ [] ≡ map (sent (text_of old)) pieces ++ text ∷ [] = refl in
    grown pieces (interleaved 0 (cursors ++ n ∷ []) args) text (text_of old) w.view h.cursors_are
  where
    grown : (pieces whole : Pieces) (text old : List ℕ) → whole ≡ pieces ++ Cursor ∷ []
        → cursors ≡ cursor_places 0 pieces → with_text_at text cursors (map (sent old) pieces ++ text ∷ [])
        ≡ map (sent text) whole
    grown pieces whole text old v c =
        let simple : Pieces = pieces ++ Simple text ∷ [] in
        let same : map (sent old) simple ≡ map (sent old) pieces ++ text ∷ [] = map-append (sent old) pieces
        (Simple text ∷ []) in
        let places : cursor_places 0 simple ≡ cursors = places-append 0 pieces (Simple text ∷ [])
        ∙ append-nil (cursor_places 0 pieces) ∙ sym c in
        let r = sent-again text old simple in
        ap (λ xs. with_text_at text cursors xs) (sym same) ∙ ap (λ ps. with_text_at text ps (map (sent old) simple))
        (sym places) ∙ r ∙ map-append (sent text) pieces (Simple text ∷ [])
        ∙ sym (map-append (sent text) pieces (Cursor ∷ [])) ∙ ap (map (sent text)) (sym v)

-- ---- what is seen of a command

pub shows : (place : ℕ) (text : List ℕ) (pieces : Pieces)
    → shown_from place (map (sent text) pieces) (cursor_places place pieces) ≡ pieces
shows place text [] = refl
shows place text (Simple arg ∷ pieces) =
    let none = none_at place (place + 1) ((place + 1) + length pieces) (cursor_places (place + 1) pieces) (omega arith)
    (ascends (place + 1) pieces) in
    let rest = shows (place + 1) text pieces in
    rw (none, rest) refl
shows place text (Cursor ∷ pieces) =
    let here = same_place place in
    let rest = passed (place + 1) (map (sent text) pieces) place (cursor_places (place + 1) pieces) (omega arith)
    ∙ shows (place + 1) text pieces in
    rw (here, rest) refl

pub holds_cursor : (cursor : Option ℕ) (cursors : List ℕ) (args : Args) → Keeps cursor cursors args
    → HoldsCursor (sent_args cursor cursors args) cursor cursors
holds_cursor cursor cursors args k =
    let h = k.are_interleaved in
    let pieces = interleaved 0 cursors args in
    let n : 0 + length pieces ≡ length (sent_args cursor cursors args) = zero-add (length pieces)
    ∙ sym (length-map pieces (sent (text_of cursor))) in
    let up : AscendWithin 0 (length (sent_args cursor cursors args)) cursors = subst
    (λ places. AscendWithin 0 (length (sent_args cursor cursors args)) places) (sym h.cursors_are)
    (subst (λ end. AscendWithin 0 end (cursor_places 0 pieces)) n (ascends 0 pieces)) in
    record { ascend = up; texts = by_cursor cursor up h k.unset }
  where
    by_cursor : (cursor : Option ℕ) → AscendWithin 0 (length (sent_args cursor cursors args)) cursors
        → IsInterleaved cursors args → MatchOption cursor (cursors ≡ []) (λ c. Unit {0})
        → MatchOption cursor (cursors ≡ []) (λ c. HaveText (decimal c) (sent_args cursor cursors args) cursors)
    by_cursor None up h none = none
    by_cursor (Some c) up h none =
        subst (λ xs. HaveText (decimal c) xs cursors) (sent-set c (Some c) cursors args h)
        (have_written (decimal c) 0 (length (sent_args (Some c) cursors args)) cursors
        (sent_args (Some c) cursors args) up (omega arith))

pub sent-default : (cursor : Option ℕ) (cursors : List ℕ) (args : Args) (n : ℕ) → Keeps cursor cursors args
    → n ≡ unwrap_or cursor 0 → sent_args (Some n) cursors args ≡ sent_args cursor cursors args
sent-default (Some c) cursors args n k e = ap (λ m. sent_args (Some m) cursors args) e
sent-default None cursors args n k e = ap (λ cs. map (sent (decimal n)) (interleaved 0 cs args)) k.unset
    ∙ sent-simple (decimal n) args ∙ sym (ap (λ cs. map (sent []) (interleaved 0 cs args)) k.unset
    ∙ sent-simple [] args)

-- a cursor that is set again changes nothing
pub sent-as_set : (cursor : Option ℕ) (cursors : List ℕ) (args : Args) (n : ℕ) → Keeps cursor cursors args
    → n ≡ unwrap_or cursor 0 → with_text_at (decimal n) cursors (sent_args cursor cursors args)
    ≡ sent_args cursor cursors args
sent-as_set cursor cursors args n k e = sent-set n cursor cursors args k.are_interleaved ∙ sent-default cursor cursors
    args n k e

pub sent-counted : (cursor : Option ℕ) (cursors : List ℕ) (args : Args) → length (sent_args cursor cursors args)
    ≡ length args + length cursors
sent-counted cursor cursors args = length-map (interleaved 0 cursors args) (sent (text_of cursor))
    ∙ interleaved-counted 0 cursors args

pub shown_pieces : (cursor : Option ℕ) (cursors : List ℕ) (args : Args) → IsInterleaved cursors args
    → shown_from 0 (sent_args cursor cursors args) cursors ≡ interleaved 0 cursors args
shown_pieces cursor cursors args h = ap (λ places. shown_from 0 (sent_args cursor cursors args) places) h.cursors_are
    ∙ shows 0 (text_of cursor) (interleaved 0 cursors args)

pub keeps_appended : (cursor : Option ℕ) (cursors : List ℕ) (args more : Args) → Keeps cursor cursors args
    → Keeps cursor cursors (args ++ more)
keeps_appended cursor cursors args more k = record
    { are_interleaved = (appended cursors args more k.are_interleaved).are_interleaved; unset = k.unset }

pub keeps_added : (cursor : Option ℕ) (new : ℕ) (cursors : List ℕ) (args : Args) (n : ℕ) → Keeps cursor cursors args
    → n ≡ length args + length cursors → Keeps (Some new) (cursors ++ n ∷ []) args
keeps_added cursor new cursors args n k e = record
    { are_interleaved = (cursor-added cursors args n k.are_interleaved e).are_interleaved; unset = tt }

-- the next of what an iterator has left
drop-next : {X : Type 0} (xs : List X) (n : ℕ) (x : X) → slice_get xs n ≡ Some x → drop n xs ≡ x ∷ drop (suc n) xs
drop-next [] n x h = cc
drop-next (y ∷ xs) zero x h = drop-first y xs x h
  where
    drop-first : {X : Type 0} (y : X) (xs : List X) (x : X) → slice_get (y ∷ xs) 0 ≡ Some x → y ∷ xs ≡ x ∷ drop 0 xs
    drop-first y [] x h = cc
    drop-first y (z ∷ xs) x h = cc
drop-next (y ∷ xs) (suc n) x h = drop-next xs n x h

drop-get : {X : Type 0} (xs : List X) (n : ℕ) (x : X) → slice_get xs n ≡ Some x → drop n xs ≡ x ∷ drop (n + 1) xs
drop-get xs n x h = let e : suc n ≡ n + 1 = omega arith in drop-next xs n x h ∙ ap (λ k. x ∷ drop k xs) e

drop-none : {X : Type 0} (xs : List X) (n : ℕ) → slice_get xs n ≡ None → drop n xs ≡ []
drop-none [] zero h = refl
drop-none [] (suc n) h = refl
drop-none (y ∷ xs) zero h = cc
drop-none (y ∷ xs) (suc n) h = drop-none xs n h

pub left_cursor : (encoded_args : Args) (cursors : List ℕ) (taken passed cursor : ℕ)
    → slice_get cursors passed ≡ Some cursor → cursor ≤ taken + passed
    → interleaved (taken + passed) (drop passed cursors) (drop taken encoded_args) ≡ Cursor
    ∷ interleaved (taken + (passed + 1)) (drop (passed + 1) cursors) (drop taken encoded_args)
left_cursor encoded_args cursors taken passed cursor h l =
    let n : (taken + passed) + 1 ≡ taken + (passed + 1) = omega arith in
    ap (λ cs. interleaved (taken + passed) cs (drop taken encoded_args)) (drop-get cursors passed cursor h)
    ∙ interleaved-cursor (taken + passed) cursor (drop (passed + 1) cursors) (drop taken encoded_args) l
    ∙ ap (λ k. Cursor ∷ interleaved k (drop (passed + 1) cursors) (drop taken encoded_args)) n

pub left_last_cursor : (encoded_args : Args) (cursors : List ℕ) (taken passed cursor : ℕ)
    → slice_get cursors passed ≡ Some cursor → slice_get encoded_args taken ≡ None
    → interleaved (taken + passed) (drop passed cursors) (drop taken encoded_args) ≡ Cursor
    ∷ interleaved (taken + (passed + 1)) (drop (passed + 1) cursors) (drop taken encoded_args)
left_last_cursor encoded_args cursors taken passed cursor h none =
    let n : (taken + passed) + 1 ≡ taken + (passed + 1) = omega arith in
    let e : drop taken encoded_args ≡ [] = drop-none encoded_args taken none in
    rw (e, drop-get cursors passed cursor h, n) refl

pub left_simple : (encoded_args : Args) (cursors : List ℕ) (taken passed cursor : ℕ) (arg : List ℕ)
    → slice_get cursors passed ≡ Some cursor → slice_get encoded_args taken ≡ Some arg → taken + passed < cursor
    → interleaved (taken + passed) (drop passed cursors) (drop taken encoded_args) ≡ Simple arg
    ∷ interleaved ((taken + 1) + passed) (drop passed cursors) (drop (taken + 1) encoded_args)
left_simple encoded_args cursors taken passed cursor arg h some l =
    let n : (taken + passed) + 1 ≡ (taken + 1) + passed = omega arith in
    let e = drop-get encoded_args taken arg some in
    let d = drop-get cursors passed cursor h in
    ap (λ args. interleaved (taken + passed) (drop passed cursors) args) e
    ∙ ap (λ cs. interleaved (taken + passed) cs (arg ∷ drop (taken + 1) encoded_args)) d
    ∙ interleaved-simple (taken + passed) cursor (drop (passed + 1) cursors) arg (drop (taken + 1) encoded_args) l
    ∙ ap (λ k. Simple arg ∷ interleaved k (cursor ∷ drop (passed + 1) cursors) (drop (taken + 1) encoded_args)) n
    ∙ ap (λ cs. Simple arg ∷ interleaved ((taken + 1) + passed) cs (drop (taken + 1) encoded_args)) (sym d)

pub left_only_simple : (encoded_args : Args) (cursors : List ℕ) (taken passed : ℕ) (arg : List ℕ)
    → slice_get cursors passed ≡ None → slice_get encoded_args taken ≡ Some arg
    → interleaved (taken + passed) (drop passed cursors) (drop taken encoded_args) ≡ Simple arg
    ∷ interleaved ((taken + 1) + passed) (drop passed cursors) (drop (taken + 1) encoded_args)
left_only_simple encoded_args cursors taken passed arg none some =
    let e = drop-get encoded_args taken arg some in
    let d : drop passed cursors ≡ [] = drop-none cursors passed none in
    rw (e, d) refl

pub left_nothing : (encoded_args : Args) (cursors : List ℕ) (taken passed : ℕ) → slice_get cursors passed ≡ None
    → slice_get encoded_args taken ≡ None → interleaved (taken + passed) (drop passed cursors) (drop taken encoded_args)
    ≡ []
left_nothing encoded_args cursors taken passed none none' =
    let e : drop taken encoded_args ≡ [] = drop-none encoded_args taken none' in
    let d : drop passed cursors ≡ [] = drop-none cursors passed none in
    rw (e, d) refl

pub some_within : {X : Type 0} (xs : List X) (n : ℕ) → n < length xs → slice_get xs n ≡ None → ⊥
some_within [] n l h = omega arith
some_within (x ∷ xs) zero l h = cc
some_within (x ∷ xs) (suc n) l h = some_within xs n (omega arith) h
