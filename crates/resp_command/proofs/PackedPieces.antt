-- A loop that packs pieces between their cursors.
use Rattle.std.proofs.Common.{◌≡◌, ℕ, suc, ◌+◌, ◌-◌, ◌≤◌, ◌<◌, List, [], ◌∷◌, ◌++◌, length, take, drop, length-append}
use Rattle.std.proofs.Common.{append_assoc, refl, sym, ap, ◌∙◌, arith}
use Rattle.std.specs.Prelude.{get_or, map}
use Rattle.std.specs.List.{flat_map}
use Rattle.std.proofs.lemmas.List.{append-nil, drop-drop, length-drop}
use Rattle.std.proofs.Math.Seq.{take-append_seam, take-length, drop-append_seam, drop-cons}
use Rattle.resp_args.specs.Args.{Args}
use Rattle.resp_command.specs.declared.args_iter.Arg.TheVariants.{Simple, Cursor}
use Rattle.resp_command.specs.Packed.{bulk}
use Rattle.resp_command.specs.Pieces.{IsInterleaved, Pieces, cursor_places, ordinary, sent, interleaved}

-- the frames of pieces
abbrev pub frames_of : List ℕ → Pieces → List ℕ
frames_of text pieces = flat_map bulk (map (sent text) pieces)

-- ordinary arguments and cursors have been packed, and these pieces are left
pub record PartPacked (text : List ℕ) (encoded_args : Args) (cursors : List ℕ) (done passed : ℕ) (start out : List ℕ) :
    Type 0 where
  pub left : Pieces
  pub args_left : drop done encoded_args ≡ ordinary left
  pub cursors_left : drop passed cursors ≡ cursor_places (done + passed) left
  pub within : done ≤ length encoded_args
  pub bytes : out ++ frames_of text left ≡ start ++ frames_of text (interleaved 0 cursors encoded_args)
  -- what was packed so far
  pub written : List ℕ
  pub out_is : out ≡ start ++ written

pub none_packed : (text : List ℕ) (encoded_args : Args) (cursors : List ℕ) (start : List ℕ)
    → IsInterleaved cursors encoded_args → PartPacked text encoded_args cursors 0 0 start start
none_packed text encoded_args cursors start h = record {
  left = interleaved 0 cursors encoded_args;
  args_left = none encoded_args ∙ h.args_are;
  cursors_left = none cursors ∙ h.cursors_are;
  within = omega arith;
  bytes = refl;
  written = [];
  out_is = sym (append-nil start);
}
  where
    none : {X : Type 0} (xs : List X) → drop 0 xs ≡ xs
    none [] = refl
    none (x ∷ xs) = refl

-- pieces whose next cursor has this place: ordinary arguments, the cursor, and the rest
pub record NextCursor (place cursor : ℕ) (cursors : List ℕ) (pieces : Pieces) : Type 0 where
  pub before : Args
  pub after : Pieces
  pub split : pieces ≡ map Simple before ++ Cursor ∷ after
  pub place_is : cursor ≡ place + length before
  pub cursors_are : cursors ≡ cursor_places (cursor + 1) after

pub next_cursor : (place cursor : ℕ) (cursors : List ℕ) (pieces : Pieces)
    → cursor ∷ cursors ≡ cursor_places place pieces → NextCursor place cursor cursors pieces
next_cursor place cursor cursors [] e = cc
next_cursor place cursor cursors (Simple arg ∷ pieces) e =
    let n = next_cursor (place + 1) cursor cursors pieces e in
    record {
      before = arg ∷ n.before;
      after = n.after;
      split = ap (λ ps. Simple arg ∷ ps) n.split;
      place_is = omega (arith, n.place_is);
      cursors_are = n.cursors_are;
    }
next_cursor place cursor cursors (Cursor ∷ pieces) e =
    let same : cursor ≡ place = cc in
    let rest : cursors ≡ cursor_places (place + 1) pieces = cc in
    record {
      before = [];
      after = pieces;
      split = refl;
      place_is = omega (arith, same);
      cursors_are = rest ∙ ap (λ n. cursor_places (n + 1) pieces) (sym same);
    }

ordinary-split : (before : Args) (after : Pieces) → ordinary (map Simple before ++ Cursor ∷ after) ≡ before
    ++ ordinary after
ordinary-split [] after = refl
ordinary-split (arg ∷ before) after = ap (λ xs. arg ∷ xs) (ordinary-split before after)

encoded_args-split : (text : List ℕ) (before : Args) (after : Pieces)
    → frames_of text (map Simple before ++ Cursor ∷ after) ≡ flat_map bulk before ++ (bulk text ++ frames_of text after)
encoded_args-split text [] after = refl
encoded_args-split text (arg ∷ before) after = ap (λ bs. bulk arg ++ bs) (encoded_args-split text before after)
    ∙ sym (append_assoc (bulk arg) (flat_map bulk before) (bulk text ++ frames_of text after))

module _ (text : List ℕ) (encoded_args : Args) (cursors : List ℕ) (done passed cursor : ℕ) (start out : List ℕ)
    (p : PartPacked text encoded_args cursors done passed start out)
    (more : drop passed cursors ≡ cursor ∷ drop (passed + 1) cursors) where
  abbrev pub found : NextCursor (done + passed) cursor (drop (passed + 1) cursors) p.left
  found = next_cursor (done + passed) cursor (drop (passed + 1) cursors) p.left (sym more ∙ p.cursors_left)

  pub passed_below : passed ≤ cursor
  passed_below = let n = found.place_is in omega (arith, n)

  long : length (drop done encoded_args) ≡ length found.before + length (ordinary found.after)
  long = ap length (p.args_left ∙ ap ordinary found.split ∙ ordinary-split found.before found.after)
      ∙ length-append found.before (ordinary found.after)

  pub next_within : (cursor - passed) ≤ length encoded_args
  next_within = let n = found.place_is in let w = p.within in omega (arith, n, w, long, length-drop done encoded_args)

  pub next_after : done ≤ cursor - passed
  next_after = let n = found.place_is in omega (arith, n)

  -- the frames up to the next cursor, and the cursor's
  pub one_packed : (out' : List ℕ) → out' ≡ (out
      ++ flat_map bulk (take ((cursor - passed) - done) (drop done encoded_args))) ++ bulk text
      → PartPacked text encoded_args cursors (cursor - passed) (passed + 1) start out'
  one_packed out' e =
      let n = found.place_is in
      let before : Args = found.before in
      let after : Pieces = found.after in
      let whole : drop done encoded_args ≡ before ++ ordinary after = p.args_left ∙ ap ordinary found.split
      ∙ ordinary-split before after in
      let size : (cursor - passed) - done ≡ length before = omega (arith, n) in
      let taken : take ((cursor - passed) - done) (drop done encoded_args) ≡ before = rw (size, whole)
      (take-append_seam before (ordinary after)) in
      let next : done + length before ≡ cursor - passed = omega (arith, n) in
      let rest : drop (cursor - passed) encoded_args ≡ ordinary after = ap (λ k. drop k encoded_args) (sym next)
      ∙ sym (drop-drop (length before) done encoded_args) ∙ ap (drop (length before)) whole
      ∙ drop-append_seam before (ordinary after) in
      let place : cursor + 1 ≡ (cursor - passed) + (passed + 1) = omega (arith, n) in
      let out-is : out' ≡ (out ++ flat_map bulk before) ++ bulk text = e
      ∙ ap (λ xs. (out ++ flat_map bulk xs) ++ bulk text) taken in
      let joined : ((out ++ flat_map bulk before) ++ bulk text) ++ frames_of text after ≡ out
      ++ (flat_map bulk before ++ (bulk text ++ frames_of text after)) = simp append_assoc refl in
      record {
        left = after;
        args_left = rest;
        cursors_left = found.cursors_are ∙ ap (λ k. cursor_places k after) place;
        within = next_within;
        bytes = ap (λ bs. bs ++ frames_of text after) out-is ∙ joined ∙ ap (λ bs. out ++ bs)
            (sym (ap (frames_of text) found.split ∙ encoded_args-split text before after)) ∙ p.bytes;
        written = (p.written ++ flat_map bulk before) ++ bulk text;
        out_is = out-is ∙ ap (λ bs. (bs ++ flat_map bulk before) ++ bulk text) p.out_is ∙ simp append_assoc refl;
      }

-- the next place of a cursor
pub next_place : (cursors : List ℕ) (passed i : ℕ) → passed ≡ i → i < length cursors
    → drop passed cursors ≡ get_or cursors i 0 ∷ drop (passed + 1) cursors
next_place cursors passed i e l =
    let n : suc i ≡ passed + 1 = omega arith in
    ap (λ k. drop k cursors) e ∙ drop-cons cursors i 0 l ∙ ap (λ k. get_or cursors i 0 ∷ drop k cursors) n

-- where no cursor is left, the rest are ordinary arguments
only_simple : (place : ℕ) (pieces : Pieces) → [] ≡ cursor_places place pieces → (text : List ℕ)
    → frames_of text pieces ≡ flat_map bulk (ordinary pieces)
only_simple place [] e text = refl
only_simple place (Simple arg ∷ pieces) e text = ap (λ bs. bulk arg ++ bs) (only_simple (place + 1) pieces e text)
only_simple place (Cursor ∷ pieces) e text = cc

pub all_packed : (text : List ℕ) (encoded_args : Args) (cursors : List ℕ) (done passed : ℕ) (start out : List ℕ)
    → PartPacked text encoded_args cursors done passed start out → drop passed cursors ≡ []
    → out ++ flat_map bulk (take (length encoded_args - done) (drop done encoded_args)) ≡ start ++ frames_of text
    (interleaved 0 cursors encoded_args)
all_packed text encoded_args cursors done passed start out p none =
    let size : length encoded_args - done ≡ length (drop done encoded_args) = sym (length-drop done encoded_args) in
    let rest : take (length encoded_args - done) (drop done encoded_args) ≡ drop done encoded_args = ap
    (λ k. take k (drop done encoded_args)) size ∙ take-length (drop done encoded_args) in
    ap (λ xs. out ++ flat_map bulk xs) (rest ∙ p.args_left) ∙ ap (λ bs. out ++ bs)
    (sym (only_simple (done + passed) p.left (sym none ∙ p.cursors_left) text)) ∙ p.bytes
