use Rattle.std.proofs.Common.{rules, ◌≡◌, ◌≤◌, ◌+◌, ◌-◌, ℕ, List, [], ◌∷◌, ◌++◌, drop, take, length, sym, ap, ◌∙◌}
use Rattle.std.proofs.lemmas.List.{drop-drop}
use Rattle.example_server.specs.Lines.{bulk_string_of}
use Rattle.example_server.specs.Requests.{bulk_strings, with_words}
use Rattle.example_server.specs.declared.lines.BulkString.TheVariants as bulk
use Rattle.example_server.proofs.Continuing.{word_taken, word_wrong}
use Rattle.example_server.proofs.requests.Requests.take_words.Goals as goal

pub loop-self-preserved : goal.loop-self-preserved
loop-self-preserved c = λ more.
    let s = c.loop-self.self in
    let from : ℕ = c.in-Whole.from in
    let size : ℕ = c.in-Whole.size in
    let b : List ℕ = drop s.at s.bytes.items in
    let e : c.rest-bytes.result.now ≡ b = search (rules, c.rest-bytes.ensures, c.as_slice.ensures.value) in
    let f : bulk_string_of b ≡ bulk.Whole from size =
    ap bulk_string_of (sym e) ∙ sym c.bulk_string.ensures.value ∙ c.in-Whole.is in
    let k : from + size + 2 ≤ length b = search (rules, e, c.in-Whole.ensures.bound) in
    let w : c.in_ok-from_slice-in-Whole.field-0 ≡ take size (drop from b) =
    search (rules, e, c.in_ok-from_slice-in-Whole.ensures) in
    let p : c.push.new.self.items ≡ s.words.items ++ take size (drop from b) ∷ [] =
    c.in_ok-push-in-Whole.ensures.items ∙ ap (λ x. s.words.items ++ x ∷ []) w in
    let d : drop (s.at + (from + size + 2)) s.bytes.items ≡ drop (from + size + 2) b =
    sym (drop-drop (from + size + 2) s.at s.bytes.items) in
    ap (λ ws. with_words ws (bulk_strings (s.missing - 1) (drop (s.at + (from + size + 2)) s.bytes.items ++ more))) p
    ∙ ap (λ x. with_words (s.words.items ++ take size (drop from b) ∷ []) (bulk_strings (s.missing - 1) (x ++ more))) d
    ∙ sym (word_taken s.missing from size b s.words.items (search (rules, c.loop-self-test.true)) f k more)
    ∙ c.loop-self.invariant more

pub returns-in-Wrong : goal.returns-in-Wrong
returns-in-Wrong c = λ more.
    let s = c.loop-self.self in
    let b : List ℕ = drop s.at s.bytes.items in
    let e : c.rest-bytes.result.now ≡ b = search (rules, c.rest-bytes.ensures, c.as_slice.ensures.value) in
    let f : bulk_string_of b ≡ bulk.Wrong c.in-Wrong.why =
    ap bulk_string_of (sym e) ∙ sym c.bulk_string.ensures.value ∙ c.in-Wrong.is in
    sym (c.loop-self.invariant more)
    ∙ word_wrong s.missing c.in-Wrong.why b s.words.items (search (rules, c.loop-self-test.true)) f more
