-- Values that are no attribute.
use Rattle.std.proofs.Common.{◌≡◌, refl, true}
use Rattle.resp_value.specs.declared.value.Value.{Value, out-Value}
use Rattle.resp_value.specs.declared.value.Value.TheOpen.{Value-F}
use Rattle.resp_flat.specs.declared.token.TokenKind.TheVariants as kind
use Rattle.resp_flat.specs.FlatValues.{kind_in, kind_of}
use Rattle.resp_from.specs.Attributes.{stripped}
use Rattle.resp_from.specs.Lines.{is_list}

abbrev without : Value → Value-F Value → Value
without v y = elim y [ Value-F.Attribute payload attributes ↦ payload | _ ↦ v ]

without-list : (v : Value) (y : Value-F Value) → is_list y ≡ true → without v y ≡ v
without-list v (Value-F.Array items) is = refl
without-list v (Value-F.Set items) is = refl
without-list v _ is = absurd (cc)

pub list_stripped : (v : Value) → is_list (out-Value v) ≡ true → stripped v ≡ v
list_stripped v is = without-list v (out-Value v) is

without-map : (v : Value) (y : Value-F Value) → kind_in y ≡ kind.Map → without v y ≡ v
without-map v (Value-F.Map entries) is = refl
without-map v _ is = absurd (cc)

pub map_stripped : (v : Value) → kind_of v ≡ kind.Map → stripped v ≡ v
map_stripped v is = without-map v (out-Value v) is
