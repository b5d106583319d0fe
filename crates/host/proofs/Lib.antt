pub mod HostLaws
pub mod CallLaws
pub mod FetchLaws
pub mod WriteLaws
pub mod Promised
