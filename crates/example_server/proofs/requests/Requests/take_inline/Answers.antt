use Rattle.std.proofs.Common.{rules, ◌≡◌, ◌+◌, ℕ, List, ◌++◌, drop, take, Some, sym, ap, ◌∙◌}
use Rattle.std.proofs.lemmas.List.{drop-drop}
use Rattle.example_server.specs.Inline.{words_in}
use Rattle.example_server.specs.Lines.{line_of}
use Rattle.example_server.specs.Requests.{request}
use Rattle.example_server.specs.declared.lines.Line.TheVariants as line
use Rattle.example_server.proofs.Continuing.{inline_taken}
use Rattle.example_server.proofs.requests.Requests.take_inline.Goals as goal

pub returns-in-Some : goal.returns-in-Some
returns-in-Some c =
    let s = c.args.self.now in
    let n : ℕ = c.in-EndsAt.at in
    let b : List ℕ = drop s.at s.bytes.items in
    let words : List (List ℕ) = c.in-Some.words.items in
    let e : c.rest-bytes.result.now ≡ b = search (rules, c.rest-bytes.ensures, c.as_slice.ensures.value) in
    let l : line_of 10 0 b ≡ line.EndsAt n = ap (line_of 10 0) (sym e) ∙ sym c.first_line.ensures ∙ c.in-EndsAt.is in
    let f : words_in (take n b) ≡ Some words = search (rules, e, c.in_ok-words-in-EndsAt.ensures, c.in-Some.is) in
    let d : drop (n + 1) b ≡ drop (s.at + (n + 1)) s.bytes.items = drop-drop (n + 1) s.at s.bytes.items in (
      λ i. record {
        words = c.new.ensures.items i;
        missing = c.requires.missing i;
        unread = drop (s.at + (n + 1))
            s.bytes.items;
      },
      λ more. c.requires.is_inline more ∙ inline_taken n b words l f more ∙ ap (λ x. request words (x ++ more)) d,
    )
