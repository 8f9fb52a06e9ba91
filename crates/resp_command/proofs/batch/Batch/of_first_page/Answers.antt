use Rattle.std.proofs.Common.{◌∙◌, refl, sym}
use Rattle.resp_command.proofs.ScanCalls.{batch_first, list_first}
use Rattle.resp_command.proofs.batch.Batch.of_first_page.Goals as goal

pub returns-then-looks_like_cursor : goal.returns-then-looks_like_cursor
returns-then-looks_like_cursor g c = record {
  converts = batch_first _ _ c.args.reply c.of_page.result
      (sym c.looks_like_cursor.ensures ∙ c.if-looks_like_cursor.true) c.of_page.ensures.converts;
}

pub returns : goal.returns
returns g c = record {
  converts = record {
    items = c.in_ok-items.items;
    page = list_first c.args.reply 0 c.in_ok-items.items
        (sym c.looks_like_cursor.ensures ∙ c.if-looks_like_cursor.false) refl c.in_ok-items.ensures.converts;
    results = rw c.into_vec.ensures at c.in_ok-results.ensures.answers;
  };
}
