use Rattle.std.proofs.Common.{◌≡◌, ◌++◌, sym, subst}
use Rattle.sha2.specs.declared.Sha256.{Sha256}
use Rattle.sha2.specs.Hashers.{Holds256}
use Rattle.eco_base.specs.Digests.{framed, digest_after}
use Rattle.eco_base.proofs.Hashing.{fed_digest}
use Rattle.eco_base.proofs.digest.HashedLef.digest.Goals as goal

pub returns : goal.returns
returns c =
    let lef = c.self.invariant.0 in
    let a = framed c.args.def.now in
    let b = framed c.args.functions.now in
    let d = framed c.args.desk.now in
    let held : Holds256 c.copy-hasher.result (framed lef) = subst (λ (s : Sha256). Holds256 s (framed lef)) (sym c.copy-hasher.ensures) c.self.invariant.1 in
    let fed = c.finalize.ensures (((framed lef ++ a) ++ b) ++ d) (c.feed-3.ensures ((framed lef ++ a) ++ b) (c.feed-2.ensures (framed lef ++ a) (c.feed.ensures (framed lef) held))) in
    subst (λ (s : Sha256). c.finalize.result ≡ digest_after s ((a ++ b) ++ d)) c.self.view_is (fed_digest c.self.inside.hasher (framed lef) a b d c.finalize.result c.self.invariant.1 fed)
