-- What is readable in so many levels is so in one more.
use Rattle.std.proofs.Common.{◌≡◌, ℕ, zero, suc, true, List}
use Rattle.std.specs.List.{All}
use Rattle.std.proofs.lemmas.List.Elements.{All-weaker}
use Rattle.resp_value.specs.declared.value.Value.{Value, out-Value}
use Rattle.resp_value.specs.declared.value.Value.TheOpen.{Value-F}
use Rattle.resp_flat.specs.declared.token.TokenKind.TheVariants as kind
use Rattle.resp_flat.specs.FlatValues.{elements_in, elements_of, kind_in, kind_of, pairs_in, pairs_of}
use Rattle.resp_flat.specs.Readable.{BothAre, IsReadableLayer, IsReadable}
use Rattle.resp_from.specs.Lines.{is_list}

module _ (P Q : Value → Type 0) (more : (v : Value) → P v → Q v) where
  pairs-more : (ps : List (Value × Value)) → All (BothAre P) ps → All (BothAre Q) ps
  pairs-more ps h = All-weaker (BothAre P) (BothAre Q) (λ p both. (more p.0 both.0, more p.1 both.1)) ps h

  layer-more : (y : Value-F Value) → IsReadableLayer P y → IsReadableLayer Q y
  layer-more (Value-F.SimpleString text) h = h
  layer-more (Value-F.Double text) h = h
  layer-more (Value-F.ServerError error) h = h
  layer-more (Value-F.VerbatimString format text) h = h
  layer-more (Value-F.Array elements) h = All-weaker P Q more elements h
  layer-more (Value-F.Set elements) h = All-weaker P Q more elements h
  layer-more (Value-F.Map pairs) h = pairs-more pairs h
  layer-more (Value-F.Attribute payload attributes) h = (more payload h.0, pairs-more attributes h.1)
  layer-more (Value-F.Push kind payload) h = (h.0, All-weaker P Q more payload h.1)
  layer-more _ h = tt

more_levels : (d : ℕ) (v : Value) → IsReadable d v → IsReadable (suc d) v
unfolding IsReadable
more_levels zero v h = absurd h
more_levels (suc d) v h = layer-more (IsReadable d) (IsReadable (suc d)) (more_levels d) (out-Value v) h

elements-layer : (P : Value → Type 0) (y : Value-F Value) → is_list y ≡ true → IsReadableLayer P y
    → All P (elements_in y)
elements-layer P (Value-F.Array elements) is h = h
elements-layer P (Value-F.Set elements) is h = h
elements-layer P _ is h = absurd (cc)

each-element : (d : ℕ) (v : Value) → is_list (out-Value v) ≡ true → IsReadable (suc d) v
    → All (IsReadable d) (elements_of v)
unfolding IsReadable
each-element d v is h = elements-layer (IsReadable d) (out-Value v) is h

-- the elements of a list are as readable as it
pub elements_readable : (v : Value) → is_list (out-Value v) ≡ true → IsReadable 1000 v
    → All (IsReadable 1000) (elements_of v)
elements_readable v is h = All-weaker (IsReadable 999) (IsReadable 1000) (more_levels 999) (elements_of v)
    (each-element 999 v is h)

pairs-layer : (P : Value → Type 0) (y : Value-F Value) → kind_in y ≡ kind.Map → IsReadableLayer P y
    → All (BothAre P) (pairs_in y)
pairs-layer P (Value-F.Map pairs) is h = h
pairs-layer P _ is h = absurd (cc)

each-pair : (d : ℕ) (v : Value) → kind_of v ≡ kind.Map → IsReadable (suc d) v
    → All (BothAre (IsReadable d)) (pairs_of v)
unfolding IsReadable
each-pair d v is h = pairs-layer (IsReadable d) (out-Value v) is h

-- the pairs of a map are as readable as it
pub pairs_readable : (v : Value) → kind_of v ≡ kind.Map → IsReadable 1000 v
    → All (BothAre (IsReadable 1000)) (pairs_of v)
pairs_readable v is h = pairs-more (IsReadable 999) (IsReadable 1000) (more_levels 999) (pairs_of v)
    (each-pair 999 v is h)
