-- Types of stored values by their names (Redis, TYPE).
use Rattle.std.specs.Prelude.{◌≡◌, ℕ, List, codes, cond}
use Rattle.std.specs.Str.{bytes_eq}
use Rattle.resp_value.specs.declared.value.Value.{Value, out-Value}
use Rattle.resp_value.specs.declared.value.Value.TheOpen.{Value-F}
use Rattle.resp_types.specs.declared.value_type.ValueType.{ValueType}
use Rattle.resp_types.specs.declared.value_type.ValueType.TheVariants as type

-- the type with this name
unfoldable pub type_named : List ℕ → ValueType
type_named name =
    cond (bytes_eq name (codes "none")) type.None
    (cond (bytes_eq name (codes "string")) type.String
    (cond (bytes_eq name (codes "list")) type.List
    (cond (bytes_eq name (codes "set")) type.Set
    (cond (bytes_eq name (codes "zset")) type.ZSet
    (cond (bytes_eq name (codes "hash")) type.Hash
    (cond (bytes_eq name (codes "stream")) type.Stream
    (cond (bytes_eq name (codes "vectorset")) type.VectorSet
    (cond (bytes_eq name (codes "ReJSON-RL")) type.JSON
    (cond (bytes_eq name (codes "MBbloom--")) type.BloomFilterRedis
    (cond (bytes_eq name (codes "MBbloomCF")) type.CuckooFilter
    (cond (bytes_eq name (codes "CMSk-TYPE")) type.CountMin
    (cond (bytes_eq name (codes "TDIS-TYPE")) type.TDigest
    (cond (bytes_eq name (codes "TopK-TYPE")) type.TopK
    (cond (bytes_eq name (codes "TSDB-TYPE")) type.TimeSeries
    (cond (bytes_eq name (codes "trietype0")) type.Trie
    (cond (bytes_eq name (codes "bloomfltr")) type.BloomFilterValKey
    (type.Unknown name)))))))))))))))))

-- the name of a type
abbrev pub name_of_type : ValueType → List ℕ
name_of_type type.None = codes "none"
name_of_type type.String = codes "string"
name_of_type type.List = codes "list"
name_of_type type.Set = codes "set"
name_of_type type.ZSet = codes "zset"
name_of_type type.Hash = codes "hash"
name_of_type type.Stream = codes "stream"
name_of_type type.VectorSet = codes "vectorset"
name_of_type type.JSON = codes "ReJSON-RL"
name_of_type type.BloomFilterRedis = codes "MBbloom--"
name_of_type type.CuckooFilter = codes "MBbloomCF"
name_of_type type.CountMin = codes "CMSk-TYPE"
name_of_type type.TDigest = codes "TDIS-TYPE"
name_of_type type.TopK = codes "TopK-TYPE"
name_of_type type.TimeSeries = codes "TSDB-TYPE"
name_of_type type.Trie = codes "trietype0"
name_of_type type.BloomFilterValKey = codes "bloomfltr"
name_of_type (type.Unknown name) = name

-- a reply, as it stands, names this type
abbrev pub NamesType : Value-F Value → ValueType → Type 0
NamesType (Value-F.SimpleString name) t = t ≡ type_named name
NamesType _ t = ⊥

-- the reply names this type
abbrev pub OfType : Value → ValueType → Type 0
OfType reply t = NamesType (out-Value reply) t
