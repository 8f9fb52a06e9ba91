use Rattle.std.proofs.Common.{arith, refl}
use Rattle.resp_errors.proofs.Words.{no_words, next_word, none_named, slot_alone, no_slot, named}
use Rattle.resp_errors.proofs.redirects.node_of.Goals as goal

pub returns-in_err-next : goal.returns-in_err-next
returns-in_err-next c =
    let text = c.split_ascii_whitespace-words.ensures.text in
    let none = no_words c.split_ascii_whitespace-words.result c.next.new.self c.next.result c.args.detail.now text
    c.next.ensures.steps c.in_err-next.was in
    let refused = none_named _ none in
    grind (arith, refused)

pub returns-in_err-slot : goal.returns-in_err-slot
returns-in_err-slot c =
    let text = c.split_ascii_whitespace-words.ensures.text in
    let first = next_word c.split_ascii_whitespace-words.result c.next.new.self c.next.result c.args.detail.now text
    c.next.ensures.steps c.in_ok-next.was in
    let refused = no_slot _ _ c.in_ok-next.field-0.now first c.parse.result c.parse.ensures.value.0
    c.in_err-slot.ensures.value in
    grind (arith, refused)

pub returns-in_err-address : goal.returns-in_err-address
returns-in_err-address c =
    let text = c.split_ascii_whitespace-words.ensures.text in
    let first = next_word c.split_ascii_whitespace-words.result c.next.new.self c.next.result c.args.detail.now text
    c.next.ensures.steps c.in_ok-next.was in
    let none = no_words c.next.new.self c.next-2.new.self c.next-2.result _ refl c.next-2.ensures.steps
    c.in_err-address.was in
    let refused = slot_alone _ _ _ first none in
    grind (arith, refused)

pub returns : goal.returns
returns c =
    let text = c.split_ascii_whitespace-words.ensures.text in
    let first = next_word c.split_ascii_whitespace-words.result c.next.new.self c.next.result c.args.detail.now text
    c.next.ensures.steps c.in_ok-next.was in
    let second = next_word c.next.new.self c.next-2.new.self c.next-2.result _ refl c.next-2.ensures.steps
    c.in_ok-address.was in
    named _ _ _ first c.parse.result c.in_ok-slot.slot c.in_ok-address.address.now _ c.parse.ensures.value.0
    c.in_ok-slot.ensures.value second
