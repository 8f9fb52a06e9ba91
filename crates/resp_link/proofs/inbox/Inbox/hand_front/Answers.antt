use Rattle.std.proofs.Common.{◌≡◌, ◌≤◌, ◌∙◌, ap, sym, refl, arith, length, take, drop}
use Rattle.std.proofs.lemmas.Grind.{common_steps}
use Rattle.std.proofs.lemmas.List.{take-append-drop}
use Rattle.std.proofs.lemmas.Result.{err_from_is_err_and}
use Rattle.resp_parse.proofs.ParserStates.{IsBetweenValues-same}
use Rattle.resp_link.proofs.TakenParts.{front-left}
use Rattle.resp_link.proofs.inbox.Inbox.hand_front.Goals as goal

pub returns-in_err-send_piece-clause-hands : goal.returns-in_err-send_piece-clause-hands
returns-in_err-send_piece-clause-hands g c =
    let at = c.args.self.now in
    let p = err_from_is_err_and c.from_residual.result c.from_residual.ensures.1 in
    let k = c.min-count.result in
    let held = c.unparsed-held.result.now in
    let same : held ≡ at.parser.since = c.unparsed-held.ensures.unparsed ∙ sym (IsBetweenValues-same at.parser c.requires) in
    let size : length (take k held) ≤ c.args.most = grind (arith, common_steps, c.min-count.ensures) in
    rw (p.1, p.2) (
      refl,
      (
        take k held,
        (
          (record { rest = drop k held; whole = sym same ∙ sym (take-append-drop k held) }, size),
          rw c.in_err-send_piece.was at c.send_piece.ensures,
        ),
      ),
    )

pub returns-clause-hands : goal.returns-clause-hands
returns-clause-hands g c =
    let at = c.args.self.now in
    let k = c.min-count.result in
    let held = c.unparsed-held.result.now in
    let same : held ≡ at.parser.since = c.unparsed-held.ensures.unparsed ∙ sym (IsBetweenValues-same at.parser c.requires) in
    let l = ap length same in (
      take k held,
      (
        record {
          piece_is = ap (take k) same;
          some = λ a b. grind (arith, common_steps, c.min-count.ensures, l, a, b);
          within = grind (arith, common_steps, c.min-count.ensures);
          size = grind (arith, common_steps, c.min-count.ensures);
          left = front-left _ at.parser c.skip.new.self _ _ k c.requires c.skip.ensures.rest c.skip.ensures.limits
              c.skip.ensures.unparsed;
        },
        rw c.in_ok-send_piece.was at c.send_piece.ensures,
      ),
    )
