-- What is written as a message may be sent.
use Rattle.std.proofs.Common.{◌≡◌, ℕ, ◌≤◌, List, ◌++◌, length, sym, subst, arith}
use Rattle.xs_model.specs.declared.message.Header.{Header}
use Rattle.xs_model.specs.declared.message.TheConstants.{PAYLOAD_MAX}
use Rattle.xs_model.specs.Messages.{header_bytes}
use Rattle.out_queues.proofs.LawLemmas.{written_is_whole}
use Rattle.daemon.specs.Acts.{IsReply}

pub written_is_reply : (head : Header) (payload : List ℕ) → head.len ≡ length payload → length payload ≤ PAYLOAD_MAX → (bytes : List ℕ) → bytes ≡ header_bytes head ++ payload → IsReply bytes
written_is_reply head payload len fits bytes spelled = subst IsReply (sym spelled) (record {
  whole = written_is_whole head payload len fits;
  short = omega arith;
})
