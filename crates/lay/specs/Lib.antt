-- Stages that are paired, and sides that are laid out.
pub mod Staged
