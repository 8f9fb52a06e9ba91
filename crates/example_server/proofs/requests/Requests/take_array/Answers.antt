use Rattle.std.proofs.Common.{rules, ◌≡◌, ◌≤◌, ◌+◌, ℕ, List, ◌++◌, drop, length, sym, ap, ◌∙◌}
use Rattle.std.proofs.lemmas.List.{drop-drop}
use Rattle.example_server.specs.Lines.{array_of}
use Rattle.example_server.specs.Requests.{ahead, bulk_strings, pending}
use Rattle.example_server.specs.declared.lines.Array.TheVariants as array
use Rattle.example_server.proofs.Continuing.{array_taken, array_wrong, new_array, if_takes_same}
use Rattle.example_server.proofs.requests.Requests.take_array.Goals as goal

pub returns-in-Announced : goal.returns-in-Announced
returns-in-Announced c =
    let s = c.args.self.now in
    let from : ℕ = c.in-Announced.from in
    let count : ℕ = c.in-Announced.count in
    let b : List ℕ = drop s.at s.bytes.items in
    let e : c.rest.result.now ≡ b = search (rules, c.rest.ensures, c.as_slice.ensures.value) in
    let f : array_of b ≡ array.Announced count from =
    ap array_of (sym e) ∙ sym c.array_header.ensures.value ∙ c.in-Announced.is in
    let k : from ≤ length b = search (rules, e, c.in-Announced.ensures.bound) in
    let d : drop from b ≡ drop (s.at + from) s.bytes.items = drop-drop from s.at s.bytes.items in
    if_takes_same c.take_words.result _ (ahead (pending s)) _
    (λ more. c.requires more ∙ array_taken count from b f k more ∙ ap (λ x. bulk_strings count (x ++ more)) d
    ∙ sym (new_array count c.new.result.items (drop (s.at + from) s.bytes.items ++ more) c.new.ensures.items))
    c.take_words.ensures

pub returns-in-Wrong : goal.returns-in-Wrong
returns-in-Wrong c = λ more.
    let s = c.args.self.now in
    let b : List ℕ = drop s.at s.bytes.items in
    let e : c.rest.result.now ≡ b = search (rules, c.rest.ensures, c.as_slice.ensures.value) in
    let f : array_of b ≡ array.Wrong c.in-Wrong.why =
    ap array_of (sym e) ∙ sym c.array_header.ensures.value ∙ c.in-Wrong.is in
    c.requires more ∙ array_wrong c.in-Wrong.why b f more
