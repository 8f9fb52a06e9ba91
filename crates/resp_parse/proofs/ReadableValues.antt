-- A value that was read can be read back from its tokens and its text.
use Rattle.std.proofs.Common.{◌≡◌, ℕ, zero, suc, List, [], ◌∷◌, sym, ap, subst, ◌∙◌}
use Rattle.std.proofs.lemmas.List.Elements.{All-nil, All-cons}
use Rattle.std.specs.List.{All}
use Rattle.std.specs.Str.{IsUtf8}
use Rattle.resp_value.specs.declared.value.Value.{Value, SimpleString, out-Value, out-roll-Value}
use Rattle.resp_value.specs.declared.value.Value.TheVariants.{rolls-SimpleString}
use Rattle.resp_value.specs.declared.value.Value.TheOpen.{Value-F}
use Rattle.resp_flat.specs.Readable.{IsReadableLayer, IsReadable}
use Rattle.resp_parse.specs.Grammar.{Announcement, complete, body, elements, invalid, announced, Joined, Follows}
use Rattle.resp_parse.specs.Grammar.{WellFormed}
use Rattle.resp_parse.specs.PlainReading.{got, read}
use Rattle.resp_parse.proofs.ReadableLayers.{Layer, Readable, announced-readable}
use Rattle.resp_parse.proofs.ReadingMeetsGrammar.{read-well_formed}

text-in : (d : ℕ) (text : List ℕ) → IsReadable d (SimpleString text) → IsUtf8 text
unfolding IsReadable
text-in zero text h = absurd h
text-in (suc d) text h =
    let form : out-Value (SimpleString text) ≡ Value-F.SimpleString text = ap out-Value (sym (rolls-SimpleString text))
    ∙ out-roll-Value (Value-F.SimpleString text) in
    subst (IsReadableLayer (IsReadable d)) form h

-- what bytes spell, P holds of
abbrev AllSpelled : (List ℕ → Value → Type 0) → (Value → Type 0) → Type 0
AllSpelled G P = (b : List ℕ) (v : Value) → G b v → P v

joined-are : (G : List ℕ → Value → Type 0) (P : Value → Type 0) → AllSpelled G P → (b : List ℕ) (vs : List Value)
    → Joined G b vs → All P vs
joined-are G P each b [] j = All-nil P
joined-are G P each b (v ∷ vs) j = All-cons P v vs (each j.first v j.first_is)
    (joined-are G P each j.others vs j.others_are)

follows-readable : (G : List ℕ → Value → Type 0) (P : Value → Type 0) → AllSpelled G P → (a : Announcement)
    → Readable P a → (rest : List ℕ) (v : Value) → Follows G a rest v → Layer P v
follows-readable G P each (complete w) s rest v h = subst (Layer P) (sym h.1) s
follows-readable G P each (body n make) s rest v h = s h.content v h.makes
follows-readable G P each (elements n make) s rest v h = s h.values v h.size h.makes
    (joined-are G P each rest h.values h.joined)
follows-readable G P each (invalid f) s rest v h = absurd h

pub spelled-readable : (d : ℕ) (b : List ℕ) (v : Value) → WellFormed d b v → IsReadable d v
unfolding IsReadable
spelled-readable zero b v g = absurd g
spelled-readable (suc d) b v g =
    follows-readable (WellFormed d) (IsReadable d) (spelled-readable d) (announced g.kind g.text)
    (announced-readable (IsReadable d) (text-in d) g.kind g.text g.text_is_utf8) g.rest v g.follows

pub read-readable : (d : ℕ) (bs : List ℕ) (v : Value) (rest : List ℕ) → read d bs ≡ got v rest → IsReadable d v
read-readable d bs v rest e = let p = read-well_formed d bs rest v e in spelled-readable d p.prefix v p.is
