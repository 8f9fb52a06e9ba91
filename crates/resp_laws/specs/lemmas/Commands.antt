-- Lemmas: a reply is one value at most of each type of a single command.
use Rattle.std.specs.Prelude.{◌≡◌, ◌==◌, ℕ, ℤ, pos, negsuc, zero, suc, true, false, List, [], ◌∷◌, codes, String}
use Rattle.std.specs.Prelude.{string_bytes, string_cmp, map, get_or}
use Rattle.std.specs.Int.{w64}
use Rattle.std.specs.List.{AllZip}
use Rattle.std.specs.Ordering.{nat_cmp}
use Rattle.std.specs.Cmp.Lexicographic.{slice_cmp}
use Rattle.std.specs.String.{string_cmp_total}
use Rattle.std.specs.declared.alloc.Global.{Global}
use Rattle.std.proofs.Common.{refl, sym, ap, ◌∙◌, subst}
use Rattle.std.proofs.lemmas.Bool.{true≢false}
use Rattle.std.proofs.lemmas.List.{map-id}
use Rattle.resp_value.specs.Views.{sequence_of}
use Rattle.resp_value.specs.declared.value.Value.{Value, Int, out-Value}
use Rattle.resp_value.specs.declared.value.Value.TheOpen.{Value-F}
use Rattle.resp_value.specs.declared.value.Value.TheVariants.{outs-Int}
use Rattle.resp_from.specs.Attributes.{stripped}
use Rattle.resp_types.specs.declared.integer_reply.IntegerReplyOrNoOp.{IntegerReplyOrNoOp}
use Rattle.resp_types.specs.declared.integer_reply.IntegerReplyOrNoOp.TheVariants.{IntegerReply, NotExists}
use Rattle.resp_types.specs.declared.integer_reply.IntegerReplyOrNoOp.TheVariants.{ExistsButNotRelevant}
use Rattle.resp_types.specs.declared.role.ReplicaInfo.{ReplicaInfo}
use Rattle.resp_types.specs.declared.role.Role.{Role}
use Rattle.resp_types.specs.declared.role.Role.TheVariants.{Primary, Replica, Sentinel}
use Rattle.resp_types.specs.declared.value_type.ValueType.{ValueType}
use Rattle.resp_types.specs.Increx.{OfIncrex}
use Rattle.resp_types.specs.Info.{IsEntry, OfInfo, entries_of, entries_of_text}
use Rattle.resp_types.specs.IntegerReplies.{OfIntegerReply, number_of}
use Rattle.resp_types.specs.Roles.{AreRole, HasRole, Ignored, OfReplica, OfRole, OfSigned, OfUnsigned}
use Rattle.resp_types.specs.ValueTypes.{NamesType, OfType}
use Rattle.resp_from.specs.Lists.{OfVec}
use Rattle.resp_from.specs.Texts.{OfText}
use Rattle.resp_from.specs.Tuples.{First}
use Rattle.resp_types.specs.OneValue.{IsSingleValued, pair_seen}
use Rattle.resp_types.specs.lemmas.Lists.{alike_partners, one_list}
use Rattle.resp_types.specs.lemmas.Scalars.{one_signed, one_text, one_unsigned}
use Rattle.resp_types.specs.lemmas.Sorted.{merged_alike}
use Rattle.resp_laws.specs.lemmas.Tuples.{AreSingleValued, one_of_found}

-- ---- integers with two answers that are no number

abbrev int_or : ℤ → Value-F Value → ℤ
int_or other (Value-F.Int n) = n
int_or other _ = other

abbrev answer_of : ℤ → IntegerReplyOrNoOp
answer_of (pos n) = IntegerReply n
answer_of (negsuc zero) = ExistsButNotRelevant
answer_of (negsuc (suc n)) = NotExists

of_its_number : (x : IntegerReplyOrNoOp) → answer_of (number_of x) ≡ x
of_its_number (IntegerReply n) = refl
of_its_number NotExists = refl
of_its_number ExistsButNotRelevant = refl

pub one_integer_reply : IsSingleValued OfIntegerReply (λ x. x)
one_integer_reply reply x y h k =
    let layer : (z : IntegerReplyOrNoOp) → reply ≡ Int (number_of z)
    → out-Value reply ≡ Value-F.Int (number_of z) = λ z e. ap out-Value e ∙ outs-Int (number_of z) in
    let same : number_of x ≡ number_of y = ap (int_or (pos 0)) (sym (layer x h) ∙ layer y k) in
    sym (of_its_number x) ∙ ap answer_of same ∙ of_its_number y

-- ---- types of stored values

one_named : (layer : Value-F Value) (x y : ValueType) → NamesType layer x → NamesType layer y → x ≡ y
one_named (Value-F.SimpleString name) x y h k = h ∙ sym k
one_named _ x y h k = absurd h

pub one_value_type : IsSingleValued OfType (λ x. x)
one_value_type reply x y h k = one_named (out-Value reply) x y h k

-- ---- lists of values that are seen as they are

one_plain_list : {X : Type 0} {Of : Value → X → Type 0} → IsSingleValued Of (λ x. x) → (reply : Value)
    (xs ys : List X) → OfVec 0 false Of reply xs → OfVec 0 false Of reply ys → xs ≡ ys
one_plain_list {X} {Of} single reply xs ys h k =
    sym (map-id xs) ∙ one_list Of (λ x. x) single 0 false reply xs ys h k ∙ map-id ys

-- ---- the two numbers of an increment

pub one_increx : IsSingleValued OfIncrex (λ x. x)
one_increx reply x y h k =
    let same = one_plain_list {Of = λ v x. x ≡ v} (λ reply x y h k. h ∙ sym k) reply
    (x.value ∷ x.actual_increment ∷ []) (y.value ∷ y.actual_increment ∷ []) h.listed k.listed in
    λ i. record {
      value = get_or (same i) 0 x.value;
      actual_increment = get_or (same i) 1 x.value;
    }

-- ---- roles

same_replica : AreSingleValued (λ items info. First OfText info.ip (First (OfUnsigned 16) info.port
    (First OfSigned info.replication_offset Ignored)) items) (λ (x : ReplicaInfo). x)
same_replica [] x y h k = absurd h
same_replica (ip ∷ []) x y h k = absurd h.1
same_replica (ip ∷ port ∷ []) x y h k = absurd h.1.1
same_replica (ip ∷ port ∷ offset ∷ more) x y h k = λ i. record {
  ip = one_text ip x.ip y.ip h.0 k.0 i;
  port = one_unsigned 16 port x.port y.port h.1.0 k.1.0 i;
  replication_offset =
      one_signed w64 offset x.replication_offset y.replication_offset h.1.1.0 k.1.1.0 i;
}

pub one_replica : IsSingleValued OfReplica (λ x. x)
one_replica reply x y h k =
    one_of_found _ (λ x. x) same_replica (sequence_of (stripped reply)) x y h k

-- a name is not two names whose second bytes differ
apart : {A : Type 0} (name s t : List ℕ) (byte : ℕ) → name ≡ s → name ≡ t → (get_or s 1 0 == byte) ≡ true
    → (get_or t 1 0 == byte) ≡ false → A
apart name s t byte e d holds fails =
    absurd (true≢false (sym holds ∙ ap (λ text. get_or text 1 0 == byte) (sym e ∙ d) ∙ fails))

same_primary : (items : List Value) (offset offset' : ℕ) (replicas replicas' : List ReplicaInfo)
    → First (OfUnsigned 64) offset (First (OfVec 0 false OfReplica) replicas Ignored) items
    → First (OfUnsigned 64) offset' (First (OfVec 0 false OfReplica) replicas' Ignored) items
    → Primary offset replicas ≡ Primary offset' replicas'
same_primary [] offset offset' replicas replicas' h k = absurd h
same_primary (a ∷ []) offset offset' replicas replicas' h k = absurd h.1
same_primary (a ∷ b ∷ more) offset offset' replicas replicas' h k =
    let offsets = one_unsigned 64 a offset offset' h.0 k.0 in
    let lists = one_plain_list one_replica b replicas replicas' h.1.0 k.1.0 in
    λ i. Primary (offsets i) (lists i)

same_follower : (items : List Value) (ip ip' : List ℕ) (port port' : ℕ) (state state' : List ℕ)
    (received received' : ℕ)
    → First OfText ip (First (OfUnsigned 16) port (First OfText state (First (OfUnsigned 64) received Ignored))) items
    → First OfText ip' (First (OfUnsigned 16) port' (First OfText state' (First (OfUnsigned 64) received' Ignored)))
    items
    → Replica ip port state received ≡ Replica ip' port' state' received'
same_follower [] ip ip' port port' state state' received received' h k = absurd h
same_follower (a ∷ []) ip ip' port port' state state' received received' h k = absurd h.1
same_follower (a ∷ b ∷ []) ip ip' port port' state state' received received' h k = absurd h.1.1
same_follower (a ∷ b ∷ c ∷ []) ip ip' port port' state state' received received' h k = absurd h.1.1.1
same_follower (a ∷ b ∷ c ∷ d ∷ more) ip ip' port port' state state' received received' h k =
    let ips = one_text a ip ip' h.0 k.0 in
    let ports = one_unsigned 16 b port port' h.1.0 k.1.0 in
    let states = one_text c state state' h.1.1.0 k.1.1.0 in
    let counts = one_unsigned 64 d received received' h.1.1.1.0 k.1.1.1.0 in
    λ i. Replica (ips i) (ports i) (states i) (counts i)

same_watcher : (items : List Value) (names names' : List (List ℕ))
    → First (OfVec 0 false OfText) names Ignored items
    → First (OfVec 0 false OfText) names' Ignored items → Sentinel names ≡ Sentinel names'
same_watcher [] names names' h k = absurd h
same_watcher (a ∷ more) names names' h k = ap Sentinel (one_plain_list one_text a names names' h.0 k.0)

same_role : (name : List ℕ) (items : List Value) (x y : Role) → HasRole name items x → HasRole name items y → x ≡ y
same_role name items (Primary o r) (Primary o' r') h k = same_primary items o o' r r' h.1 k.1
same_role name items (Replica a b c d) (Replica a' b' c' d') h k = same_follower items a a' b b' c c' d d' h.1 k.1
same_role name items (Sentinel n) (Sentinel n') h k = same_watcher items n n' h.1 k.1
same_role name items (Primary o r) (Replica a b c d) h k = apart name (codes "master") (codes "slave") 97 h.0 k.0 refl
    refl
same_role name items (Primary o r) (Sentinel n) h k = apart name (codes "master") (codes "sentinel") 97 h.0 k.0 refl
    refl
same_role name items (Replica a b c d) (Primary o r) h k = apart name (codes "slave") (codes "master") 108 h.0 k.0 refl
    refl
same_role name items (Replica a b c d) (Sentinel n) h k = apart name (codes "slave") (codes "sentinel") 108 h.0 k.0 refl
    refl
same_role name items (Sentinel n) (Primary o r) h k = apart name (codes "sentinel") (codes "master") 101 h.0 k.0 refl
    refl
same_role name items (Sentinel n) (Replica a b c d) h k = apart name (codes "sentinel") (codes "slave") 101 h.0 k.0 refl
    refl

named_role : (layer : Value-F Value) (items : List Value) (x y : Role)
    → elim layer as (λ l. Type 0) [ Value-F.BulkString name ↦ HasRole name items x | _ ↦ ⊥ ]
    → elim layer as (λ l. Type 0) [ Value-F.BulkString name ↦ HasRole name items y | _ ↦ ⊥ ] → x ≡ y
named_role (Value-F.BulkString name) items x y h k = same_role name items x y h k
named_role _ items x y h k = absurd h

one_listed_role : AreSingleValued AreRole (λ x. x)
one_listed_role [] x y h k = absurd h
one_listed_role (first ∷ items) x y h k = named_role (out-Value first) items x y h k

pub one_role : IsSingleValued OfRole (λ x. x)
one_role reply x y h k = one_of_found AreRole (λ x. x) one_listed_role (sequence_of (stripped reply)) x y h k

-- ---- what a server says of itself

-- the key of an entry by its bytes, and its value
abbrev pub entry_seen : String Global × Value → List ℕ × Value
entry_seen = pair_seen string_bytes (λ v. v)

pub one_info : IsSingleValued OfInfo (λ dict. map entry_seen (entries_of dict))
one_info reply x y h k =
    let same : k.text ≡ h.text = one_text (stripped reply) k.text h.text k.is h.is in
    let again = subst (λ text. AllZip IsEntry (entries_of_text text) k.holds.read) same k.holds.each in
    let alike = alike_partners IsEntry entry_seen (λ said e d p q i. ((p.0 ∙ sym q.0) i, (p.1 ∙ sym q.1) i))
    (entries_of_text h.text) h.holds.read k.holds.read h.holds.each again in
    merged_alike string_cmp string_cmp_total string_bytes (λ x y z e. ap (slice_cmp nat_cmp (string_bytes z)) e)
    (λ v. v)
    h.holds.read k.holds.read (entries_of x) (entries_of y) alike h.holds.merged k.holds.merged
