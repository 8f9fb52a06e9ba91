-- Replies and their attributes (RESP3, "Attributes").
use Rattle.resp_value.specs.declared.value.Value.{Value, out-Value}
use Rattle.resp_value.specs.declared.value.Value.TheOpen.{Value-F}

-- a reply without its attribute; one that stands inside it stays
abbrev pub stripped : Value → Value
stripped v = elim (out-Value v) [ Value-F.Attribute payload attributes ↦ payload | _ ↦ v ]
