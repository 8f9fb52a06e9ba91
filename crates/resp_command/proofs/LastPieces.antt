-- The last argument of a command, as an ordinary one that grows.
use Rattle.std.proofs.Common.{IsTrue, ◌≡◌, ℕ, suc, zero, ◌+◌, ◌-◌, ◌<◌, Bool, true, false, nat_lt, List, [], ◌∷◌, ◌++◌}
use Rattle.std.proofs.Common.{length, take, Option, None, Some, MatchOption, filter, length-append, refl, sym, ap, ◌∙◌}
use Rattle.std.proofs.Common.{arith, subst, zero-add}
use Rattle.std.specs.Prelude.{decimal, map, slice_get}
use Rattle.std.specs.Option.{unwrap_or}
use Rattle.std.proofs.lemmas.List.{append-nil, map-append, length-map}
use Rattle.std.proofs.Math.Seq.{take-append_seam}
use Rattle.resp_args.specs.Args.{Args, extended}
use Rattle.resp_command.specs.declared.args_iter.Arg.{Arg}
use Rattle.resp_command.specs.declared.args_iter.Arg.TheVariants.{Simple, Cursor}
use Rattle.resp_command.specs.Command.{Command}
use Rattle.resp_command.specs.Cursors.{AscendWithin, with_extended_arg}
use Rattle.resp_command.specs.ShownArgs.{EndsInCursor}
use Rattle.resp_command.specs.Pieces.{Keeps, Pieces, cursor_places, ordinary, sent, sent_args, text_of, interleaved}
use Rattle.resp_command.proofs.FramedArgs.{extended-then}
use Rattle.resp_command.proofs.CursorArgs.{ascend_room}
use Rattle.resp_command.proofs.PiecesAgree.{ascends, ge-test, lt-test, ordinary-append, places-append, interleaves}
use Rattle.resp_command.proofs.PiecesAgree.{Interleaves}

-- pieces before the last one, and the last one
record LastPiece (pieces : Pieces) : Type 0 where
  pub init : Pieces
  pub last : Arg (List ℕ)
  pub split : pieces ≡ init ++ last ∷ []

last_piece : (pieces : Pieces) → 0 < length pieces → LastPiece pieces
last_piece [] l = absurd (omega arith)
last_piece (piece ∷ []) l = record { init = []; last = piece; split = refl }
last_piece (piece ∷ next ∷ pieces) l =
    let r = last_piece (next ∷ pieces) (omega arith) in
    record { init = piece ∷ r.init; last = r.last; split = ap (λ ps. piece ∷ ps) r.split }

last_of : (xs : List ℕ) (x : ℕ) → slice_get (xs ++ x ∷ []) (length (xs ++ x ∷ []) - 1) ≡ Some x
last_of xs x = ap (slice_get (xs ++ x ∷ [])) (let n = length-append xs (x ∷ []) in omega (arith, n)) ∙ at xs
  where
    at : (ys : List ℕ) → slice_get (ys ++ x ∷ []) (length ys) ≡ Some x
    at [] = refl
    at (y ∷ ys) = at ys

all_but_last : (xs : List ℕ) (x : ℕ) → take (length (xs ++ x ∷ []) - 1) (xs ++ x ∷ []) ≡ xs
all_but_last xs x =
    let n : length (xs ++ x ∷ []) - 1 ≡ length xs = let m = length-append xs (x ∷ []) in omega (arith, m) in
    ap (λ k. take k (xs ++ x ∷ [])) n ∙ take-append_seam xs (x ∷ [])

-- places below an end
below : (from end : ℕ) (places : List ℕ) (i place : ℕ) → AscendWithin from end places → slice_get places i ≡ Some place
    → place < end
below from end [] i place h e = cc
below from end (first ∷ places) zero place h e =
    let l = ascend_room (first + 1) end places h.1 in
    let s : first ≡ place = first_of first places e in
    omega (arith, l, s)
  where
    first_of : (first : ℕ) (places : List ℕ) → slice_get (first ∷ places) 0 ≡ Some place → first ≡ place
    first_of first places e = cc
below from end (first ∷ places) (suc i) place h e = below (first + 1) end places i place h.1 e

kept : (from end : ℕ) (places more : List ℕ) → AscendWithin from end places
    → filter (λ place. nat_lt place end) (places ++ more) ≡ places ++ filter (λ place. nat_lt place end) more
kept from end [] more h = refl
kept from end (first ∷ places) more h =
    let l = ascend_room (first + 1) end places h.1 in
    let yes = lt-test first end (omega arith) in
    let r = kept (first + 1) end places more h.1 in
    rw (yes, r) refl

not_kept : (place : ℕ) → filter (λ p. nat_lt p place) (place ∷ []) ≡ []
not_kept place = let no = ge-test place place (omega arith) in rw no refl

-- where there is a cursor argument, a cursor was set
pub set_text : (cursor : Option ℕ) (cursors : List ℕ) (i place n : ℕ)
    → MatchOption cursor (cursors ≡ []) (λ c. Unit {0}) → slice_get cursors i ≡ Some place → n ≡ unwrap_or cursor 0
    → decimal n ≡ text_of cursor
set_text None cursors i place n none e f = absurd (nothing i (ap (λ ps. slice_get ps i) (sym none) ∙ e))
  where
    nothing : (i : ℕ) → slice_get [] i ≡ Some place → ⊥
    nothing zero h = cc
    nothing (suc i) h = cc
set_text (Some c) cursors i place n h e f = ap decimal f

-- the last argument has more bytes, and is no cursor argument
pub record Grown (cursor : Option ℕ) (cursors : List ℕ) (args : Args) (more : List ℕ) (cursors' : List ℕ)
    (args' : Args) : Type 0 where
  pub keeps : Keeps cursor cursors' args'
  pub sent_are : sent_args cursor cursors' args' ≡ extended (sent_args cursor cursors args) more
  pub places_are : cursors' ≡ filter (λ place. nat_lt place (length (sent_args cursor cursors args) - 1)) cursors

module _ (cursor : Option ℕ) (cursors : List ℕ) (args : Args) (more : List ℕ) (k : Keeps cursor cursors args)
    (some : 0 < length (sent_args cursor cursors args)) where
  counted : length (sent_args cursor cursors args) ≡ length (interleaved 0 cursors args)
  counted = length-map (interleaved 0 cursors args) (sent (text_of cursor))

  split_up : LastPiece (interleaved 0 cursors args)
  split_up = last_piece (interleaved 0 cursors args) (omega (arith, counted, some))

  module _ (init : Pieces) (last : Arg (List ℕ)) (split : interleaved 0 cursors args ≡ init ++ last ∷ []) where
    size : length (sent_args cursor cursors args) - 1 ≡ length init
    size = let n = ap length split in let m = length-append init (last ∷ []) in omega (arith, counted, n, m)

    places : cursors ≡ cursor_places 0 init ++ cursor_places (length init) (last ∷ [])
    places = k.are_interleaved.cursors_are ∙ ap (cursor_places 0) split ∙ places-append 0 init (last ∷ [])
        ∙ ap (λ n. cursor_places 0 init ++ cursor_places n (last ∷ [])) (zero-add (length init))

    ordinaries : args ≡ ordinary init ++ ordinary (last ∷ [])
    ordinaries = k.are_interleaved.args_are ∙ ap ordinary split ∙ ordinary-append init (last ∷ [])

    rises : AscendWithin 0 (length init) (cursor_places 0 init)
    rises = subst (λ end. AscendWithin 0 end (cursor_places 0 init)) (zero-add (length init)) (ascends 0 init)

    sent_split : sent_args cursor cursors args ≡ map (sent (text_of cursor)) init ++ sent (text_of cursor) last ∷ []
    sent_split = ap (map (sent (text_of cursor))) split ∙ map-append (sent (text_of cursor)) init (last ∷ [])

    -- pieces whose last one has these bytes more
    grown : (cursors' : List ℕ) (args' : Args) → cursors' ≡ cursor_places 0 init
        → args' ≡ ordinary init ++ (sent (text_of cursor) last ++ more) ∷ []
        → filter (λ place. nat_lt place (length init)) cursors ≡ cursor_places 0 init
        → MatchOption cursor (cursors' ≡ []) (λ c. Unit {0}) → Grown cursor cursors args more cursors' args'
    grown cursors' args' c a f unset =
        let text : List ℕ = sent (text_of cursor) last ++ more in
        let w : Interleaves cursors' args' (init ++ Simple text ∷ []) = interleaves cursors' args'
        (init ++ Simple text ∷ [])
        (c ∙ sym (append-nil (cursor_places 0 init)) ∙ sym (places-append 0 init (Simple text ∷ [])))
        (a ∙ sym (ordinary-append init (Simple text ∷ []))) in
        record {
          keeps = record { are_interleaved = w.are_interleaved; unset = unset };
          sent_are = ap (map (sent (text_of cursor))) w.view ∙ map-append (sent (text_of cursor)) init
              (Simple text ∷ []) ∙ sym (ap (λ xs. extended xs more) sent_split ∙ extended-then
              (map (sent (text_of cursor)) init) (sent (text_of cursor) last) more);
          places_are = c ∙ sym f ∙ ap (λ n. filter (λ place. nat_lt place n) cursors) (sym size);
        }

  ends_here : (init : Pieces) → interleaved 0 cursors args ≡ init ++ Cursor ∷ []
      → slice_get cursors (length cursors - 1) ≡ Some (length (sent_args cursor cursors args) - 1)
  ends_here init split = ap (λ ps. slice_get ps (length ps - 1)) (places init Cursor split)
      ∙ last_of (cursor_places 0 init) (length init) ∙ ap Some (sym (size init Cursor split))

  pub grown_cursor : slice_get cursors (length cursors - 1) ≡ Some (length (sent_args cursor cursors args) - 1)
      → Grown cursor cursors args more (take (length cursors - 1) cursors) (args ++ (text_of cursor ++ more) ∷ [])
  grown_cursor ends = by_last split_up.init split_up.last split_up.split
    where
      unset : (cursor : Option ℕ) → MatchOption cursor (cursors ≡ []) (λ c. Unit {0})
          → MatchOption cursor (take (length cursors - 1) cursors ≡ []) (λ c. Unit {0})
      unset None none = rw none refl
      unset (Some c) h = tt

      by_last : (init : Pieces) (last : Arg (List ℕ)) → interleaved 0 cursors args ≡ init ++ last ∷ []
          → Grown cursor cursors args more (take (length cursors - 1) cursors) (args ++ (text_of cursor ++ more) ∷ [])
      by_last init (Simple arg) split =
          let e : cursors ≡ cursor_places 0 init = places init (Simple arg) split ∙ append-nil (cursor_places 0 init) in
          let h : AscendWithin 0 (length init) cursors = subst (λ ps. AscendWithin 0 (length init) ps) (sym e)
          (rises init (Simple arg) split) in
          absurd (let l = below 0 (length init) cursors (length cursors - 1)
          (length (sent_args cursor cursors args) - 1) h ends in omega (arith, l, size init (Simple arg) split))
      by_last init Cursor split =
          let e = places init Cursor split in
          let o : args ≡ ordinary init = ordinaries init Cursor split ∙ append-nil (ordinary init) in
          let left : take (length cursors - 1) cursors ≡ cursor_places 0 init = ap (λ ps. take (length ps - 1) ps) e
          ∙ all_but_last (cursor_places 0 init) (length init) in
          let f : filter (λ place. nat_lt place (length init)) cursors ≡ cursor_places 0 init = ap
          (filter (λ place. nat_lt place (length init))) e ∙ kept 0 (length init) (cursor_places 0 init)
          (length init ∷ []) (rises init Cursor split)
          ∙ ap (λ ps. cursor_places 0 init ++ ps) (not_kept (length init)) ∙ append-nil (cursor_places 0 init) in
          grown init Cursor split (take (length cursors - 1) cursors) (args ++ (text_of cursor ++ more) ∷ []) left
          (ap (λ xs. xs ++ (text_of cursor ++ more) ∷ []) o) f (unset cursor k.unset)

  pub some_simple : (slice_get cursors (length cursors - 1) ≡ Some (length (sent_args cursor cursors args) - 1) → ⊥)
      → 0 < length args
  some_simple apart = by_last split_up.init split_up.last split_up.split
    where
      by_last : (init : Pieces) (last : Arg (List ℕ)) → interleaved 0 cursors args ≡ init ++ last ∷ [] → 0 < length args
      by_last init Cursor split = absurd (apart (ends_here init split))
      by_last init (Simple arg) split = let n = ap length (ordinaries init (Simple arg) split) in
          let m = length-append (ordinary init) (arg ∷ []) in omega (arith, n, m)

  pub grown_simple : (slice_get cursors (length cursors - 1) ≡ Some (length (sent_args cursor cursors args) - 1) → ⊥)
      → Grown cursor cursors args more cursors (extended args more)
  grown_simple apart = by_last split_up.init split_up.last split_up.split
    where
      by_last : (init : Pieces) (last : Arg (List ℕ)) → interleaved 0 cursors args ≡ init ++ last ∷ []
          → Grown cursor cursors args more cursors (extended args more)
      by_last init Cursor split = absurd (apart (ends_here init split))
      by_last init (Simple arg) split =
          let e : cursors ≡ cursor_places 0 init = places init (Simple arg) split ∙ append-nil (cursor_places 0 init) in
          let o : extended args more ≡ ordinary init ++ (arg ++ more) ∷ [] = ap (λ xs. extended xs more)
          (ordinaries init (Simple arg) split) ∙ extended-then (ordinary init) arg more in
          let f : filter (λ place. nat_lt place (length init)) cursors ≡ cursor_places 0 init =
          ap (filter (λ place. nat_lt place (length init))) (e ∙ sym (append-nil (cursor_places 0 init)))
          ∙ kept 0 (length init) (cursor_places 0 init) [] (rises init (Simple arg) split)
          ∙ append-nil (cursor_places 0 init) in
          grown init (Simple arg) split cursors (extended args more) e o f k.unset

-- ---- the same of what a contract sees of the command

module _ (cursor : Option ℕ) (cursors : List ℕ) (args : Args) (more : List ℕ) (flag : Bool) (d : Command)
    (k : Keeps cursor cursors args)
    (view : record { args = sent_args cursor cursors args; no_response = flag; cursor = cursor; cursors = cursors } ≡ d)
    (some : 0 < length d.args) where
  seen_some : 0 < length (sent_args cursor cursors args)
  seen_some = subst (λ c. 0 < length c.args) (sym view) some

  seen_apart : (EndsInCursor d.args d.cursors → IsTrue false) → EndsInCursor (sent_args cursor cursors args) cursors → ⊥
  seen_apart apart ends = let h = subst (λ c. EndsInCursor c.args c.cursors → IsTrue false) (sym view) apart ends in cc

  pub seen_room : (EndsInCursor d.args d.cursors → IsTrue false) → 0 < length args
  seen_room apart = some_simple cursor cursors args more k seen_some (seen_apart apart)

  pub seen_simple : (args' : Args) → args' ≡ extended args more → (EndsInCursor d.args d.cursors → IsTrue false)
      → Grown cursor cursors args more cursors args'
  seen_simple args' e apart = subst (λ xs. Grown cursor cursors args more cursors xs) (sym e)
      (grown_simple cursor cursors args more k seen_some (seen_apart apart))

  pub seen_cursor : (cursors' text : List ℕ) (args' : Args) (n : ℕ) → n ≡ unwrap_or cursor 0 → text ≡ decimal n
      → cursors' ≡ take (length cursors - 1) cursors → args' ≡ args ++ (text ++ more) ∷ []
      → (IsTrue true → EndsInCursor d.args d.cursors)
      → Grown cursor cursors args more cursors' args'
  seen_cursor cursors' text args' n e f c a ends =
      let here : EndsInCursor (sent_args cursor cursors args) cursors = subst (λ s. EndsInCursor s.args s.cursors)
      (sym view) (ends refl) in
      let t : text ≡ text_of cursor = f ∙ set_text cursor cursors (length cursors - 1)
      (length (sent_args cursor cursors args) - 1) n k.unset here e in
      let a' : args' ≡ args ++ (text_of cursor ++ more) ∷ [] = a ∙ ap (λ xs. args ++ (xs ++ more) ∷ []) t in
      rw (c, a') (grown_cursor cursor cursors args more k seen_some here)

  pub seen_args : (cursors' : List ℕ) (args' : Args) → Grown cursor cursors args more cursors' args'
      → sent_args cursor cursors' args' ≡ extended d.args more
  seen_args cursors' args' g = g.sent_are ∙ ap (λ c. extended c.args more) view

  pub seen_whole : (cursors' : List ℕ) (args' : Args) → Grown cursor cursors args more cursors' args'
      → record { args = sent_args cursor cursors' args'; no_response = flag; cursor = cursor; cursors = cursors' }
      ≡ with_extended_arg more d
  seen_whole cursors' args' g = let s = g.sent_are in let p = g.places_are in rw (← view) (cc (s, p))
