pub mod LinesPushed
